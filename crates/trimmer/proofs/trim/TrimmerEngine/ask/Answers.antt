use Rattle.std.proofs.Common.{◌≡◌, length, take, ap, ◌∙◌, arith, rules}
use Rattle.std.proofs.lemmas.List.{length-take-le}
use Rattle.engine.specs.Asking.{asked}
use Rattle.engine.specs.Meaning.{Part}
use Rattle.engine.proofs.Parts.{part_trans}
use Rattle.engine.proofs.Layers.{named_from_no, take_copy}
use Rattle.trimmer.proofs.Without.{proper_part}
use Rattle.trimmer.proofs.trim.TrimmerEngine.ask.Goals as goal

pub trim-n-requires : goal.trim-n-requires
trim-n-requires g c =
    let q = asked c.args.question in
    let below = c.in_ok-ask.ensures in
    let named = named_from_no q c.args.self.now.answer c.ask.new.out c.in_ok-ask.field-0 c.in-No.c c.in-No.is below.1 in
    let few = named.few in
    let fits = below.0.proper.few in
    let room : length c.ask.new.out ≡ 1280 = search rules in
    let is : take c.in-No.c c.copy_front-in-No.new.to ≡ take c.in-No.c c.ask.new.out =
    ap (take c.in-No.c) c.copy_front-in-No.ensures ∙ take_copy c.in-No.c c.ask.new.out c.args.self.now.named (omega arith) in
    rw is (
      omega arith,
      (
        omega arith,
        (
          omega arith,
          (
            proper_part q (take c.in-No.c c.ask.new.out) q.assumed below.0.proper named.part,
            named.clash,
          ),
        ),
      ),
    )

pub copy_front-requires-in-No-2 : goal.copy_front-requires-in-No-2
copy_front-requires-in-No-2 g c =
    let q = asked c.args.question in
    let below = c.in_ok-ask.ensures in
    let named = named_from_no q c.args.self.now.answer c.ask.new.out c.in_ok-ask.field-0 c.in-No.c c.in-No.is below.1 in
    let few = named.few in
    let fits = below.0.proper.few in
    let fewer = c.trim-n.ensures.fewer in
    let room : length c.trim-n.new.self.named ≡ 1280 = search rules in
    (omega arith, omega arith)

pub returns-in-No-clause-answered : goal.returns-in-No-clause-answered
returns-in-No-clause-answered g c =
    let q = asked c.args.question in
    let largest = c.largest.ensures in
    let sizes = c.in_ok-admit_size.ensures in
    let small = sizes.0 in
    let below = c.in_ok-ask.ensures in
    let named = named_from_no q c.args.self.now.answer c.ask.new.out c.in_ok-ask.field-0 c.in-No.c c.in-No.is below.1 in
    let few = named.few in
    let fits = below.0.proper.few in
    let fewer = c.trim-n.ensures.fewer in
    let room : length c.ask.new.out ≡ 1280 = search rules in
    let room' : length c.trim-n.new.self.named ≡ 1280 = search rules in
    let n = c.trim-n.result in
    let copied : take c.in-No.c c.copy_front-in-No.new.to ≡ take c.in-No.c c.ask.new.out =
    ap (take c.in-No.c) c.copy_front-in-No.ensures ∙ take_copy c.in-No.c c.ask.new.out c.args.self.now.named (omega arith) in
    let part : Part (take n c.trim-n.new.self.named) (take c.in-No.c c.ask.new.out) = rw copied at c.trim-n.ensures.part in (
      record { small = omega arith; fits = sizes.1; proper = below.0.proper },
      (take n c.trim-n.new.self.named, length-take-le n c.trim-n.new.self.named (omega arith), part_trans part named.part, c.trim-n.ensures.clash, c.copy_front-in-No-2.ensures),
    )
