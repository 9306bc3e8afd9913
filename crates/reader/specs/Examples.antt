-- Small texts, what they read as, and the truth of it.
use Rattle.std.specs.Prelude.{◌≡◌, ℕ, true, false, List, negsuc, Some, None, Ok, codes}
use Rattle.formula.specs.Examples.{E, F, nothing, empty_clause, tautology}
use Rattle.formula.specs.Truth.{truth}
use Rattle.reader.specs.Bytes.{number_of}
use Rattle.reader.specs.Text.{reads}

abbrev pub text_e : List ℕ
text_e = codes "p cnf 3 3\ne 1 0\na 2 0\ne 3 0\n1 2 -3 0\n-1 2 -3 0\n-1 -2 3 0\n"

abbrev pub text_f : List ℕ
text_f = codes "p cnf 2 2\na 1 0\ne 2 0\n1 2 0\n1 -2 0\n"

abbrev pub EReads : Type 0
EReads = (reads text_e ≡ Ok E) × (truth E ≡ true)

abbrev pub FReads : Type 0
FReads = (reads text_f ≡ Ok F) × (truth F ≡ false)

-- no clause is true; an empty clause is false; a clause with a literal and its opposite is true
abbrev pub SmallTexts : Type 0
SmallTexts = (reads (codes "p cnf 0 0\n") ≡ Ok nothing) × (truth nothing ≡ true)
    × (reads (codes "p cnf 0 1\n0\n") ≡ Ok empty_clause) × (truth empty_clause ≡ false)
    × (reads (codes "p cnf 1 1\ne 1 0\n1 -1 0\n") ≡ Ok tautology) × (truth tautology ≡ true)

-- -0 and 007 are no numbers, -12 is
abbrev pub Numbers : Type 0
Numbers = (number_of (codes "-0") ≡ None) × (number_of (codes "007") ≡ None) × (number_of (codes "-12") ≡ Some (negsuc 11))
