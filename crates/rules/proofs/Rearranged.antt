-- A pool is sound for a game whatever the game's present level, verdict, kept values and satisfied clauses are.
use Rattle.std.proofs.Common.{◌≡◌, ℕ, false, List, get_or, ℤ, nat_abs, Option, sym, ap, subst}
use Rattle.formula.specs.Lists.{keep, All, from}
use Rattle.formula.specs.Proper.{Bound}
use Rattle.formula.specs.declared.side.Side.{Side}
use Rattle.formula.proofs.Maps.{each_same_from}
use Rattle.pool.specs.Records.{records, Sound}
use Rattle.layout.specs.declared.game.Level.{Level}
use Rattle.layout.specs.declared.game.Game.{Game}
use Rattle.layout.specs.Table.{nought, level_of}
use Rattle.layout.specs.Viewed.{signals_of}
use Rattle.layout.specs.Shown.{variables_at, levels_of}
use Rattle.soundness.specs.Soundness.{EntryForm, SoundPool}

abbrev pub rearranged : Game → List Level → ℕ → Option Side → Game
rearranged g ls p v = record {
  variables = g.variables;
  clauses = g.clauses;
  depth = g.depth;
  levels = ls;
  formula = g.formula;
  present = p;
  number = g.number;
  used = g.used;
  words = g.words;
  verdict = v;
}

-- two levels of the same side and variables, with the same chains
pub record Alike (l l' : Level) : Type 0 where
  pub side : l.side ≡ l'.side
  pub variables : l.variables ≡ l'.variables
  pub chain : l.chain ≡ l'.chain
  pub entries : l.entries ≡ l'.entries

module _ (g : Game) (ls : List Level) (p : ℕ) (v : Option Side) (alike : (m : ℕ) → Alike (get_or ls m nought) (level_of g m)) where
  same_variables : (m : ℕ) → variables_at (rearranged g ls p v) m ≡ variables_at g m
  same_variables m = ap (λ flags. keep (λ u. get_or flags u false) (from 1 g.variables)) (alike m).variables

  same_levels : levels_of (rearranged g ls p v) ≡ levels_of g
  same_levels = each_same_from (variables_at (rearranged g ls p v)) (variables_at g) 0 g.depth (λ m k. same_variables m)

  pub sound_rearranged : (pool : List ℤ) → SoundPool g pool → SoundPool (rearranged g ls p v) pool
  sound_rearranged pool sound =
      let sound-at : ℕ → Type 0 = Sound (signals_of g) pool g.used in
      record {
        size = sound.size;
        formula = record {
          chain = sound.formula.chain;
          count = sound.formula.count;
          few = sound.formula.few;
          bound = subst (λ vs. All (λ c. All (λ l. Bound vs (nat_abs l)) c) (records pool g.formula)) (sym same_levels) sound.formula.bound;
        };
        levels = λ m k.
            let old = sound.levels m k in
            record {
              chain = subst sound-at (sym (alike m).chain) old.chain;
              entries = record {
                chain = subst sound-at (sym (alike m).entries) old.entries.chain;
                forms = subst (λ σ. All (EntryForm g.variables g.clauses σ (variables_at (rearranged g ls p v) m)) (records pool (level_of (rearranged g ls p v) m).entries)) (sym (alike m).side)
                    (subst (λ vs. All (EntryForm g.variables g.clauses (level_of g m).side vs) (records pool (level_of (rearranged g ls p v) m).entries)) (sym (same_variables m))
                    (subst (λ h. All (EntryForm g.variables g.clauses (level_of g m).side (variables_at g m)) (records pool h)) (sym (alike m).entries) old.entries.forms));
              };
            };
      }
