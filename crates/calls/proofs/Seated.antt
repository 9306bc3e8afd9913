-- What happens with the pool as a slice happens with the seat that holds it.
use Rattle.std.proofs.Common.{◌≡◌, ℕ, List, length, drop, ℤ, vec_items, sym, subst, Option}
use Rattle.std.specs.Vec.{with_items}
use Rattle.std.proofs.lemmas.List.{take_at}
use Rattle.game.specs.declared.table.Table.{Table}
use Rattle.game.specs.declared.verdict.Verdict.{Verdict}
use Rattle.calls.specs.declared.seat.Seat.{Seat}
use Rattle.calls.specs.Acts.{Act, Told}
use Rattle.calls.specs.Places.{place_with, place_of}
use Rattle.calls.specs.Happening.{Happens}

pub seated : (most : ℕ) (act : Act) (told : Told) (s : Seat) (old out : List ℤ) (t' : Table) (v' : Option Verdict) → old ≡ vec_items s.pool → length out ≡ s.pool.len
    → Happens most act (place_with s.table old s.verdict) told (place_with t' out v')
    → Happens most act (place_of s) told (place_with t' (vec_items (with_items s.pool out)) v')
seated most act told s old out t' v' value long h =
    subst (λ ws. Happens most act (place_with s.table ws s.verdict) told (place_with t' (vec_items (with_items s.pool out)) v')) value
    (subst (λ ws. Happens most act (place_with s.table old s.verdict) told (place_with t' ws v')) (sym (take_at out (drop (length out) s.pool.items) s.pool.len long)) h)
