-- What is true of records that name the signals 1 to s depends on these signals alone. Assumes nothing.
use Rattle.std.proofs.Common.{◌≡◌, ℕ, suc, ◌<◌, ◌≤◌, Bool, not, List, [], ◌∷◌, ℤ, pos, negsuc, sym, refl, ap, ◌∙◌}
use Rattle.std.specs.List.{AllByRecursion}
use Rattle.pool.specs.Records.{Literal}
use Rattle.pool.proofs.Chains.{records_literals}
use Rattle.engine.specs.Truth.{literal, clause, each, chain}
use Rattle.engine.specs.Meaning.{Asked, clauses, Proper, Meets}

module _ (a b : ℕ → Bool) (s : ℕ) (same : (i : ℕ) → 0 < i → i ≤ s → a i ≡ b i) where
  pub literal_same : (x : ℤ) → Literal s x → literal a x ≡ literal b x
  literal_same (pos n) h = same n h.0 h.1
  literal_same (negsuc n) h = ap not (same (suc n) h.0 h.1)

  pub clause_same : (xs : List ℤ) → AllByRecursion (Literal s) xs → clause a xs ≡ clause b xs
  clause_same [] h = refl
  clause_same (x ∷ xs) h = let e = literal_same x h.0 in let f = clause_same xs h.1 in cc

  pub each_same : (xs : List ℤ) → AllByRecursion (Literal s) xs → each a xs ≡ each b xs
  each_same [] h = refl
  each_same (x ∷ xs) h = let e = literal_same x h.0 in let f = each_same xs h.1 in cc

  pub chain_same : (records : List (List ℤ)) → AllByRecursion (AllByRecursion (Literal s)) records → chain a records ≡ chain b records
  chain_same [] h = refl
  chain_same (c ∷ cs) h = let e = clause_same c h.0 in let f = chain_same cs h.1 in cc

  pub meets_same : (records : List (List ℤ)) (named : List ℤ) → AllByRecursion (AllByRecursion (Literal s)) records → AllByRecursion (Literal s) named → Meets records named a → Meets records named b
  meets_same records named h k meets = (sym (chain_same records h) ∙ meets.0, sym (each_same named k) ∙ meets.1)

-- the records of a proper question name its signals
pub clauses_literals : (q : Asked) → Proper q → AllByRecursion (AllByRecursion (Literal q.signals)) (clauses q)
clauses_literals q proper = records_literals q.signals q.words q.in_use q.first q.first proper.sound.1
