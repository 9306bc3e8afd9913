use Rattle.std.proofs.Common.{◌≡◌, ℕ, suc, ◌-◌, sym, ap, ◌∙◌, arith}
use Rattle.std.proofs.lemmas.Result.{err_from_is_err_and}
use Rattle.reader.specs.Text.{clauses, reading}
use Rattle.reader.specs.Left.{left, size, drawn}
use Rattle.reader.proofs.clauses.read_clauses.Goals as goal

pub returns-in_err-read_clause : goal.returns-in_err-read_clause
returns-in_err-read_clause c =
    let p = err_from_is_err_and c.from_residual.result c.from_residual.ensures.1 in
    let told = c.in_err-read_clause.ensures in
    let n = size c.args.words.now in
    let same : size c.loop-i.words ≡ n = c.loop-i.invariant.0 in
    let m : ℕ = c.args.count - c.loop-i._i - 1 in
    let one : c.args.count - c.loop-i._i ≡ suc m = omega arith in
    rw (p.1, p.2)
    record {
      size = told.size ∙ same;
      reads = λ k.
          c.loop-i.invariant.2 k
          ∙ ap (λ j. reading k n (clauses j) (drawn c.loop-i.draft) (left c.loop-i.words)) one
          ∙ ap (λ j. reading k j (clauses (suc m)) (drawn c.loop-i.draft) (left c.loop-i.words)) (sym same)
          ∙ told.reads m k;
    }
