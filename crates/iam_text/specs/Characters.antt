-- Tests on the characters of a text, which is the list of its bytes. LOGIC 2.1.
use Rattle.std.specs.Prelude.{ℕ, List, Bool, ◌&&◌, ◌||◌, ◌==◌, length, nat_lt}
use Rattle.std.specs.List.{list_all}
use Rattle.std.specs.Char.{is_ascii_alphanumeric, is_ascii_digit}

-- one or more characters that pass the test
abbrev pub is_run : (ℕ → Bool) → List ℕ → Bool
is_run test text = nat_lt 0 (length text) && list_all test text

-- an ASCII letter, a digit or `-`
abbrev pub is_label_character : ℕ → Bool
is_label_character c = is_ascii_alphanumeric c || c == 45

-- one or more ASCII letters, digits or `-`
abbrev pub is_label : List ℕ → Bool
is_label text = is_run is_label_character text

-- the id of an account: twelve ASCII digits
abbrev pub is_account : List ℕ → Bool
is_account text = (length text == 12) && list_all is_ascii_digit text
