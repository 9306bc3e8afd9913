use Rattle.std.proofs.Common.{◌≡◌, ◌+◌, length, arith, rules}
use Rattle.pool.specs.Layout.{size_for, place_after}
use Rattle.pool.specs.Append.{Room}
use Rattle.pool.proofs.Written.{words_written, grows_from, keeps_from}
use Rattle.pool.proofs.extend.append.Goals as goal

pub returns : goal.returns
returns c =
    let pool = c.args.pool.now in
    let xs = c.args.numbers.now in
    let used = c.args.used in
    let head = c.args.head in
    let at : c.max-at.result ≡ place_after used = search rules in
    let ends : c.saturating_add-behind.result ≡ place_after used + size_for (length xs) = search rules in
    let room : Room (length pool) used head (length xs) = search rules in
    let same = words_written pool used head c.max-at.result _ xs c.copy_from_slice.new.self at (omega arith) room c.copy_from_slice.ensures.after in
    record {
      written = (room, same, at, ends);
      grows = λ s sound named. grows_from s pool used head xs room _ _ _ same at ends sound named;
      keeps = λ s other sound. keeps_from s pool used head xs room _ _ _ same at ends other sound;
    }
