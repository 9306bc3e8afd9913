-- What is true of numbers and records. Assumes nothing.
use Rattle.std.proofs.Common.{◌≡◌, ℕ, ◌<◌, Bool, true, false, ◌&&◌, List, [], ◌∷◌, length, ℤ, MatchBool, sym, refl, ap, ◌∙◌}
use Rattle.std.specs.List.{AllWithin, HoldsAt}
use Rattle.std.proofs.lemmas.Bool.{and_parts}
use Rattle.std.proofs.lemmas.List.Elements.{All-from_all_within}
use Rattle.std.proofs.lemmas.List.Recursion.{and_from_places, and_fails_at}
use Rattle.engine.specs.Truth.{clause, chain}

-- one record of a chain, and those behind it
module _ (a : ℕ → Bool) (all : List (List ℤ)) (c : List ℤ) (cs : List (List ℤ)) (is : all ≡ c ∷ cs) where
  pub chain_more : clause a c ≡ true → chain a all ≡ chain a cs
  chain_more t = ap (chain a) is ∙ ap (λ b. b && chain a cs) t

  pub chain_fails : clause a c ≡ false → chain a all ≡ false
  chain_fails t = ap (chain a) is ∙ ap (λ b. b && chain a cs) t

  pub chain_parts : chain a all ≡ true → (clause a c ≡ true) × (chain a cs ≡ true)
  chain_parts t = and_parts (clause a c) (chain a cs) (sym (ap (chain a) is) ∙ t)

-- what `all` says of the records of a chain
pub chain_from : (a : ℕ → Bool) (cs : List (List ℤ)) (r : Bool)
    → MatchBool r (AllWithin (λ xs. clause a xs ≡ true) cs 0 (length cs)) ((k : ℕ) × (k < length cs) × HoldsAt (λ xs. clause a xs ≡ false) cs k) → r ≡ chain a cs
chain_from a cs true found =
    sym (and_from_places (chain a) (clause a) refl (λ _ _. refl) cs [] (λ i h. All-from_all_within (λ xs. clause a xs ≡ true) cs found i [] h))
chain_from a cs false found = sym (and_fails_at (chain a) (clause a) refl (λ _ _. refl) cs found.0 [] found.1 (found.2 []))
