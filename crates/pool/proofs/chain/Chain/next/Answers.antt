use Rattle.std.proofs.Common.{◌∷◌, sym, refl, ap, ◌∙◌}
use Rattle.pool.specs.Layout.{next_at}
use Rattle.pool.specs.Records.{records}
use Rattle.pool.proofs.Tested.{read_from_test}
use Rattle.pool.proofs.chain.Chain.next.Goals as goal

pub numbers-record-requires : goal.numbers-record-requires
numbers-record-requires c = let self = c.args.self.now in (read_from_test self.signals self.words.now self.at c.if-self-eq0.false self.sound).lies

pub next-self-requires : goal.next-self-requires
next-self-requires c = let self = c.args.self.now in (read_from_test self.signals self.words.now self.at c.if-self-eq0.false self.sound).lies

pub invariant_of-self : goal.invariant_of-self
invariant_of-self c =
    let self = c.args.self.now in
    record { sound = rw c.next-self.ensures (read_from_test self.signals self.words.now self.at c.if-self-eq0.false self.sound).linked }

pub returns : goal.returns
returns c =
    let self = c.args.self.now in
    let read = read_from_test self.signals self.words.now self.at c.if-self-eq0.false self.sound in
    record {
      records =
          read.steps
          ∙ ap (λ xs. xs ∷ records self.words.now (next_at self.words.now self.at)) (sym c.numbers-record.ensures)
          ∙ ap (λ p. c.numbers-record.result.now ∷ records self.words.now p) (sym c.next-self.ensures);
      literals = rw c.numbers-record.ensures read.literals;
      ended = tt;
      same = (refl, refl);
    }
