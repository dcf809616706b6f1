-- How many octets one call of a link moved.
use Rattle.std.specs.Prelude.{ℕ}
use Rattle.xp_links.specs.declared.link.Pulled.{Pulled}
use Rattle.xp_links.specs.declared.link.Pulled.TheVariants as pulls
use Rattle.xp_links.specs.declared.link.Pushed.{Pushed}
use Rattle.xp_links.specs.declared.link.Pushed.TheVariants as pushes

-- how many octets a pull gave
abbrev pub pulled_count : Pulled → ℕ
pulled_count (pulls.Octets count) = count
pulled_count pulls.Nothing = 0
pulled_count pulls.Ended = 0
pulled_count pulls.Fault = 0

-- how many octets a push took
abbrev pub pushed_count : Pushed → ℕ
pushed_count (pushes.Took count) = count
pushed_count pushes.Nothing = 0
pushed_count pushes.Fault = 0
