-- Action patterns: AWS IAM User Guide, "IAM JSON policy elements: Action". A text is the list of its bytes. LOGIC 6.5.
use Rattle.std.specs.Prelude.{ℕ, List, Bool, ◌&&◌, ◌||◌, ◌==◌, codes}
use Rattle.std.specs.List.{after_first, before_first}
use Rattle.std.specs.Str.{bytes_eq}
use Rattle.iam_text.specs.Characters.{is_label_character, is_run}

-- a wildcard: `*` or `?`
abbrev pub is_wildcard : ℕ → Bool
is_wildcard c = c == 42 || c == 63

-- a character of the service prefix of an action pattern: an ASCII letter or digit, `-`, `*` or `?`
abbrev pub is_prefix_character : ℕ → Bool
is_prefix_character c = is_label_character c || is_wildcard c

-- a character of the name of an action pattern: these, `_` and `.`
abbrev pub is_name_character : ℕ → Bool
is_name_character c = is_prefix_character c || c == 95 || c == 46

-- `*`, or a prefix and a name, parted by the first colon; where there is no colon, nothing stands behind it
abbrev pub is_action_pattern : List ℕ → Bool
is_action_pattern text =
    bytes_eq text (codes "*")
    || (is_run is_prefix_character (before_first (λ c. c == 58) text)
    && is_run is_name_character (after_first (λ c. c == 58) text))
