-- A map that stands for a list of texts: from each text to its first place in the list. LOGIC 12.1.
use Rattle.std.specs.Prelude.{◌≡◌, ℕ, List, Bool, String, is_some}
use Rattle.std.specs.HashMap.{HashMap, get_by_text}
use Rattle.std.specs.List.{position_from}
use Rattle.std.specs.Str.{bytes_eq}
use Rattle.std.specs.declared.alloc.Global.{Global}
use Rattle.std.specs.declared.hash.BuildHasherDefault.{BuildHasherDefault}
use Rattle.std.specs.declared.hash.FoldHasher.{FoldHasher}

abbrev pub Places : Type 0
Places = HashMap (String Global) ℕ (BuildHasherDefault FoldHasher)

-- whether the map has the text
abbrev pub has_text : Places → List ℕ → Bool
has_text places text = is_some (get_by_text places text)

-- the map has these texts, each with its first place
abbrev pub AreFirstPlaces : Places → List (List ℕ) → Type 0
AreFirstPlaces places texts = (text : List ℕ) → get_by_text places text ≡ position_from (bytes_eq text) 0 texts
