-- The principals of two worlds, as they are found.
use Rattle.std.specs.Prelude.{◌≡◌, ◌++◌, ℕ, List, map}
use Rattle.std.specs.List.{AllZip}
use Rattle.iam_decision.specs.Matched.{Selects}
use Rattle.iam_world.specs.World.{WorldValue}
use Rattle.iam_asked.specs.Texts.{IsNowhere, principal_texts}
use Rattle.iam_every_changes.specs.Compared.{IsWho, who_of}
use Rattle.iam_every_changes.specs.declared.compared.Who.{Who}

-- the principals of these texts came behind the others
abbrev pub Adds : WorldValue → WorldValue → List (List ℕ) → List Who → List Who → Type 0
Adds before after texts old new = (more : List Who) × (new ≡ old ++ more) × AllZip (IsWho before after) texts (map who_of more)

-- those after
abbrev pub AddsAll : WorldValue → WorldValue → List Who → List Who → Type 0
AddsAll before after old new = Adds before after (principal_texts after) old new

-- those that the world before alone has
abbrev pub AddsAlone : WorldValue → WorldValue → List Who → List Who → Type 0
AddsAlone before after old new =
    (alone : List (List ℕ)) × Selects (IsNowhere (principal_texts after)) (principal_texts before) alone × Adds before after alone old new
