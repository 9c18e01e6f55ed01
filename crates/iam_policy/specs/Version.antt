-- The version of a document: AWS IAM User Guide, "IAM JSON policy elements: Version". LOGIC 16.
use Rattle.std.specs.Prelude.{ℕ, List, Option, Some, None, codes, option_and_then, unwrap_or, if◌then◌else◌}
use Rattle.std.specs.Str.{bytes_eq}
use Rattle.serde_json.specs.Data.{Data}
use Rattle.serde_json.specs.Find.{get, as_str}
use Rattle.iam_text.specs.declared.version.Version.{Version}
use Rattle.iam_text.specs.declared.version.Version.TheVariants.{V2012, V2008}

-- the version of a text
abbrev pub version_text : List ℕ → Option Version
version_text text =
    if bytes_eq text (codes "2012-10-17") then Some V2012
    else (if bytes_eq text (codes "2008-10-17") then Some V2008 else None)

-- the version that the element names; where it is absent, 2008-10-17
abbrev pub version_named : Option Data → Option Version
version_named None = Some V2008
version_named (Some d) = option_and_then version_text (as_str d)

-- the version that a document is read in. One that names no version is refused, and its texts are tested as those of
-- 2012-10-17
abbrev pub version_of : Data → Version
version_of d = unwrap_or (version_named (get (codes "Version") d)) V2012
