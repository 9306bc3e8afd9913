use Rattle.std.proofs.Common.{◌≡◌, ℕ, ◌≤◌, List, length, ℤ, ◌∙◌, subst, ap₂, arith, rules}
use Rattle.engine.specs.Meaning.{Asked, Refused, Given}
use Rattle.layout.specs.declared.game.Game.{Game}
use Rattle.layout.specs.Table.{level_of}
use Rattle.layout.specs.Viewed.{signals_of}
use Rattle.game.proofs.Replied.{question, never_refused, replied}
use Rattle.game.proofs.stepping.ask.Goals as goal

-- the question by its parts
asked_so : (g : Game) (pool : List ℤ) (s : ℕ) (assumed : List ℤ) → s ≡ signals_of g → assumed ≡ (question g pool).assumed
    → ◌≡◌ {A = Asked} (record { signals = s; words = pool; in_use = g.used; first = (level_of g g.present).chain; assumed = assumed }) (question g pool)
asked_so g pool s assumed a b = ap₂ {C = Asked} (λ (k : ℕ) (l : List ℤ). record { signals = k; words = pool; in_use = g.used; first = (level_of g g.present).chain; assumed = l }) a b

pub unreachable-requires : goal.unreachable-requires
unreachable-requires g c =
    let G = c.args.game.now in
    let pool = c.args.pool.now in
    let long : length G.levels ≡ 32 = search rules in
    let deep = c.requires.0.2 in
    let fits : G.depth ≤ length G.levels = omega arith in
    let few = c.count_signals.ensures.few in
    let k = c.count_signals.ensures.value in
    let out : length c.args.out.now ≡ 1280 = search rules in
    let room : signals_of G ≤ length c.args.out.now = omega arith in
    let is = asked_so G pool c.count_signals.result c.as_slice.result.now k (c.as_slice.ensures.value ∙ c.assumptions_of-assumed.ensures.list) in
    never_refused G pool c.requires.0 c.requires.1.0 fits c.requires.1.1.0 g.E.Engine.most (length c.args.out.now) c.requires.1.1.1 room c.in-Err.field-0
    (subst (λ q. Refused g.E.Engine.most q (length c.args.out.now) c.in-Err.field-0) is c.in-Err.ensures.0)

pub returns : goal.returns
returns g c =
    let G = c.args.game.now in
    let pool = c.args.pool.now in
    let long : length G.levels ≡ 32 = search rules in
    let deep = c.requires.0.2 in
    let fits : G.depth ≤ length G.levels = omega arith in
    let k = c.count_signals.ensures.value in
    let out : length c.ask.new.out ≡ 1280 = search rules in
    let is = asked_so G pool c.count_signals.result c.as_slice.result.now k (c.as_slice.ensures.value ∙ c.assumptions_of-assumed.ensures.list) in
    replied G pool c.requires.0 c.requires.1.0 fits c.requires.1.1.0 c.args.out.now c.ask.new.out c.in-Ok.answer
    (subst (λ q. Given q c.args.out.now c.ask.new.out c.in-Ok.answer) is c.in-Ok.ensures.1) out
