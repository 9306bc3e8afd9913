use Rattle.std.proofs.Common.{◌≡◌, List, length, drop, replicate, ℤ, pos, sym, ◌∙◌, subst}
use Rattle.std.proofs.lemmas.List.{take_at}
use Rattle.game.specs.Tables.{is_held, game_in}
use Rattle.game.specs.Moves.{called, Moved}
use Rattle.calls.specs.Happening.{moves, moves_without}
use Rattle.calls.proofs.seat.Seat.next_move.Goals as goal

pub returns-in_default : goal.returns-in_default
returns-in_default c most = moves_without c.in_default.is

pub returns : goal.returns
returns c most =
    let made = c.in_ok-values.ensures.0 in
    let s = c.args.self.now in
    let call = λ (pool : List ℤ) (room : _). called (is_held s.table.game) (game_in s.table.game) c.in-Some.given pool c.args.level c.args.play.now room in
    let out = c.next_move-moved.new.values in
    let long : length out ≡ c.in_ok-values.values.len = c.next_move-moved.auto.values ∙ c.as_mut_slice.ensures.len in
    let blank = c.as_mut_slice.ensures.value ∙ made in
    moves c.in-Some.given c.in-Some.is
    (subst (λ ws. Moved (call s.pool.items 256) (replicate 256 (pos 0)) ws c.next_move-moved.result)
    (sym (take_at out (drop (length out) c.in_ok-values.values.items) c.in_ok-values.values.len long))
    (subst (λ (old : List ℤ). Moved (call s.pool.items (length old)) old out c.next_move-moved.result) blank
    (subst (λ (pool : List ℤ). Moved (call pool (length c.as_mut_slice.result.now)) c.as_mut_slice.result.now out c.next_move-moved.result) c.as_slice.ensures.value c.next_move-moved.ensures)))
