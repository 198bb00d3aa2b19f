-- The items of a log, link by link.
use Rattle.std.specs.Prelude.{List, [], ◌∷◌, ◌++◌}
use Rattle.tw_terminal.specs.declared.log.Link.{Link}
use Rattle.tw_terminal.specs.declared.log.Link.TheVariants.{Start, Behind}

-- those before, and the last one
abbrev pub items_in : {T : Type 0} → Link T → List T
items_in Start = []
items_in (Behind before item) = before.value ++ item.value ∷ []
