-- A pool with the place where a call stands in it.
use Rattle.std.specs.Prelude.{List, ℤ}
use Rattle.pool.specs.declared.extend.Place.{Place}
use Rattle.layout.specs.Laying.{Laid}

abbrev pub laid_as : List ℤ → Place → Laid
laid_as pool place = record { words = pool; used = place.used; head = place.head }
