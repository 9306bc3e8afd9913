-- Games whose parts are equal are equal.
use Rattle.std.proofs.Common.{◌≡◌, ℕ, List, Option, ap, ◌∙◌}
use Rattle.formula.specs.declared.side.Side.{Side}
use Rattle.layout.specs.declared.game.Level.{Level}
use Rattle.layout.specs.declared.game.Game.{Game}

abbrev pub game_with : (v k d : ℕ) (ls : List Level) (h p n u w : ℕ) (o : Option Side) → Game
game_with v k d ls h p n u w o = record { variables = v; clauses = k; depth = d; levels = ls; formula = h; present = p; number = n; used = u; words = w; verdict = o }

pub same_game : {v v' k k' d d' h h' u u' : ℕ} {ls ls' : List Level} (p n w : ℕ) (o : Option Side) → v ≡ v' → k ≡ k' → d ≡ d' → ls ≡ ls' → h ≡ h' → u ≡ u'
    → game_with v k d ls h p n u w o ≡ game_with v' k' d' ls' h' p n u' w o
same_game {v} {v'} {k} {k'} {d} {d'} {h} {h'} {u} {u'} {ls} {ls'} p n w o a b c e f g =
    ap (λ x. game_with x k d ls h p n u w o) a ∙ ap (λ x. game_with v' x d ls h p n u w o) b ∙ ap (λ x. game_with v' k' x ls h p n u w o) c
    ∙ ap (λ x. game_with v' k' d' x h p n u w o) e ∙ ap (λ x. game_with v' k' d' ls' x p n u w o) f ∙ ap (λ x. game_with v' k' d' ls' h' p n x w o) g
