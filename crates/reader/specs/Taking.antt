-- Which blocks and clauses are taken one after another, and what is built of them: between the definition of reading and the grammar, for proofs.
use Rattle.std.specs.Prelude.{◌≡◌, ℕ, true, false, List, [], ◌∷◌, ℤ, Ok}
use Rattle.formula.specs.Game.{Clauses}
use Rattle.formula.specs.Built.{Built, may_start, started, binding, bind_to, adding, add_to, closed, empty_level}
use Rattle.reader.specs.Grammar.{Block}

-- the variables vs are bound one after another, from b to b'
abbrev pub Binds : List ℕ → Built → Built → Type 0
Binds [] b b' = b ≡ b'
Binds (v ∷ vs) b b' = (binding v b ≡ Ok (bind_to v b)) × Binds vs (bind_to v b) b'

abbrev pub TakesBlocks : List Block → Built → Built → Type 0
TakesBlocks [] b b' = b ≡ b'
TakesBlocks (l ∷ ls) b b' = (may_start l.side b ≡ true) × ((mid : Built) × Binds l.variables (started l.side b) mid × (empty_level mid ≡ false) × TakesBlocks ls mid b')

-- the literals of a clause
abbrev pub Adds : List ℤ → Built → Built → Type 0
Adds [] b b' = b ≡ b'
Adds (l ∷ ls) b b' = (adding l b ≡ Ok (add_to l b)) × Adds ls (add_to l b) b'

abbrev pub TakesClauses : Clauses → Built → Built → Type 0
TakesClauses [] b b' = b ≡ b'
TakesClauses (c ∷ cs) b b' = (mid : Built) × Adds c b mid × TakesClauses cs (closed mid) b'
