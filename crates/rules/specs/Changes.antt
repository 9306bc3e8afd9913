-- What an answer changes in a game and its pool, word for word: one case for each rule of a step. Places count from 0.
use Rattle.std.specs.Prelude.{◌≡◌, ℕ, zero, suc, ◌-◌, ◌<◌, Bool, false, cond, ◌||◌, List, get_or, take, set, ℤ, pos, Some, int_lt, nat_le, nat_lt, slice_index_or, slice_set}
use Rattle.formula.specs.Lists.{keep, each, from, below}
use Rattle.formula.specs.Game.{other, Clauses, Values, has, hits}
use Rattle.formula.specs.declared.side.Side.{Side}
use Rattle.formula.specs.declared.side.Side.TheVariants.{Ours}
use Rattle.strategy.specs.Records.{learned_record, entry_record, values_of}
use Rattle.strategy.specs.Questions.{clauses_named}
use Rattle.strategy.specs.Steps.{last_entry_set, entry_set}
use Rattle.strategy.specs.Next.{no_level_winner}
use Rattle.strategy.specs.Next.{Answer as Said, satisfied, refused}
use Rattle.engine.specs.declared.question.Answer.{Answer}
use Rattle.engine.specs.declared.question.Answer.TheVariants.{Yes, No}
use Rattle.layout.specs.declared.game.Level.{Level}
use Rattle.layout.specs.declared.game.Game.{Game}
use Rattle.layout.specs.Table.{level_of}
use Rattle.layout.specs.Viewed.{values_in, clauses_of}
use Rattle.rules.specs.Noting.{entries_to, chain_to, with_level, entry_written, record_written}

-- a game and its pool
pub record Held : Type 0 where
  pub game : Game
  pub words : List ℤ

abbrev pub held : Game → List ℤ → Held
held g pool = record { game = g; words = pool }

-- a game with another present level, with a verdict, with other levels
abbrev pub with_present : ℕ → Game → Game
with_present m g = record {
  variables = g.variables;
  clauses = g.clauses;
  depth = g.depth;
  levels = g.levels;
  formula = g.formula;
  present = m;
  number = g.number;
  used = g.used;
  words = g.words;
  verdict = g.verdict;
}

abbrev pub with_verdict : Side → Game → Game
with_verdict w g = record {
  variables = g.variables;
  clauses = g.clauses;
  depth = g.depth;
  levels = g.levels;
  formula = g.formula;
  present = g.present;
  number = g.number;
  used = g.used;
  words = g.words;
  verdict = Some w;
}

abbrev pub with_levels : List Level → Game → Game
with_levels ls g = record {
  variables = g.variables;
  clauses = g.clauses;
  depth = g.depth;
  levels = ls;
  formula = g.formula;
  present = g.present;
  number = g.number;
  used = g.used;
  words = g.words;
  verdict = g.verdict;
}

-- a level with other values kept, with another set satisfied before it
abbrev pub values_to : List Bool → Level → Level
values_to flags l = record { side = l.side; variables = l.variables; chain = l.chain; entries = l.entries; satisfied = l.satisfied; values = flags }

abbrev pub satisfied_to : List Bool → Level → Level
satisfied_to flags l = record { side = l.side; variables = l.variables; chain = l.chain; entries = l.entries; satisfied = flags; values = l.values }

-- Values as the table keeps them: which variables are true, by their numbers. What is satisfied before the level after l, which plays x.
abbrev pub flags_for : Values → List Bool
flags_for x = each (λ v. has (pos v) x) (below 257)

abbrev pub satisfied_after : Clauses → Values → Level → List Bool
satisfied_after C x l = each (λ i. hits C x i || slice_index_or l.satisfied i false) (below 512)

-- Yes below the last level: the values are kept, and the next level is present.
abbrev pub kept : Game → List ℤ → Values → Held
kept g pool x = record {
  game = with_present (suc g.present) (with_levels (set (slice_set g.levels g.present (values_to (flags_for x) (level_of g g.present))) (suc g.present)
      (satisfied_to (satisfied_after (clauses_of g pool) x (level_of g g.present)) (level_of g (suc g.present)))) g);
  words = pool;
}

-- the entry of A and x at the level j; the record of A at the level j
abbrev pub entered : Game → List ℤ → ℕ → List ℕ → Values → Held
entered g pool j A x =
    let w = entry_written g pool j (entry_record g.variables (level_of g j).side (record { set = A; values = x })) in
    record { game = with_level g j (entries_to w.head (level_of g j)) w.used; words = w.words }

abbrev pub learned : Clauses → Held → ℕ → List ℕ → Held
learned C s j A =
    let w = record_written s.game s.words j (learned_record C s.game.variables (level_of s.game j).side A) in
    record { game = with_level s.game j (chain_to w.head (level_of s.game j)) w.used; words = w.words }

abbrev pub decided_for : Side → Held → Held
decided_for w s = record { game = with_verdict w s.game; words = s.words }

abbrev pub present_at : ℕ → Held → Held
present_at m s = record { game = with_present m s.game; words = s.words }

-- An entry at the level j. At the first level it decides the game for w; else the level before learns its set, and is present.
abbrev pub noted : Game → List ℤ → Side → ℕ → List ℕ → Values → Held
noted g pool w zero A x = decided_for w (entered g pool zero A x)
noted g pool w (suc j) A x = present_at j (learned (clauses_of g pool) (entered g pool (suc j) A x) j A)

-- Yes at the last level m, with the values x
abbrev pub finished : Game → List ℤ → ℕ → Values → Held
finished g pool m x = noted g pool Ours m (last_entry_set (clauses_of g pool) (λ i. get_or (level_of g m).satisfied i false) x) x

-- No at the level m, naming the clauses A
abbrev pub given_back : Game → List ℤ → ℕ → List ℕ → Held
given_back g pool zero A = decided_for (other (level_of g zero).side) (held g pool)
given_back g pool (suc j) A =
    noted g pool (other (level_of g (suc j)).side) j (entry_set (clauses_of g pool) (level_of g (suc j)).side A (values_in g.variables (level_of g j))) (values_in g.variables (level_of g j))

-- an answer about the present level
abbrev pub changed : Game → List ℤ → Said → Held
changed g pool (satisfied x) = cond (nat_lt (suc g.present) g.depth) (kept g pool x) (finished g pool g.present x)
changed g pool (refused A) = given_back g pool g.present A

-- With no level, ours has won when there is no clause.
abbrev pub stepped : Game → List ℤ → Said → Held
stepped g pool a = cond (nat_le g.depth g.present) (decided_for (no_level_winner (clauses_of g pool)) (held g pool)) (changed g pool a)

-- What an engine says by its words: the values of the present level's variables, or the clauses whose assumptions it names.
abbrev pub values_said : ℕ → List Bool → List ℤ → Values
values_said n flags words = values_of (λ v. int_lt (pos 0) (slice_index_or words (v - 1) (pos 0))) (keep (λ v. get_or flags v false) (from 1 n))

abbrev pub said : Game → Answer → List ℤ → Said
said g Yes words = satisfied (values_said g.variables (level_of g g.present).variables words)
said g (No c) words = refused (clauses_named g.variables g.clauses (level_of g g.present).side (take c words))

-- What is satisfied before the next level is told of every clause: the table's arrays are long enough for it.
abbrev pub Marked : Game → List ℤ → Said → Type 0
Marked g pool (satisfied x) =
    suc g.present < g.depth → (i : ℕ) → slice_index_or (satisfied_after (clauses_of g pool) x (level_of g g.present)) i false ≡ (hits (clauses_of g pool) x i || slice_index_or (level_of g g.present).satisfied i false)
Marked g pool (refused A) = Unit {0}
