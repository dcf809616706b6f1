-- The page of the console.
use Rattle.std.specs.Prelude.{ℕ, List}
use Rattle.xp_console.specs.declared.page.TheConstants.{PAGE}

-- the page, as it stands in `src/page.rt`
unfoldable pub page_text : List ℕ
page_text = PAGE.now
