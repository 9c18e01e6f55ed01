-- Which of the groups of patterns tell apart texts that a line's pattern matches: the others match all of these texts, or none.
-- LOGIC 11.2.
use Rattle.std.specs.Prelude.{Bool, true, false, ◌==◌, ◌&&◌, ◌||◌, not, List, [], ◌∷◌, filter, if◌then◌else◌, map}
use Rattle.std.specs.List.{list_any}
use Rattle.iam_glob.specs.declared.sign.Sign.{Sign}
use Rattle.iam_glob.specs.declared.sign.Sign.TheVariants.{Given, One, Any}

-- the sign is `*`
abbrev pub is_run : Sign → Bool
is_run (Given c) = false
is_run One = false
is_run Any = true

-- the signs stand for two characters
abbrev pub differ : Sign → Sign → Bool
differ (Given c) (Given d) = not (c == d)
differ (Given c) One = false
differ (Given c) Any = false
differ One sign = false
differ Any sign = false

-- before a `*` of either the patterns have two characters at one place: no text is matched by both
abbrev pub are_apart : List Sign → List Sign → Bool
are_apart [] other = false
are_apart (x ∷ one) [] = false
are_apart (x ∷ one) (y ∷ other) = differ x y || (not (is_run x || is_run y) && are_apart one other)

-- the first sign stands for each character that the other stands for, and neither is `*`
abbrev pub takes : Sign → Sign → Bool
takes (Given c) (Given d) = c == d
takes (Given c) One = false
takes (Given c) Any = false
takes One (Given d) = true
takes One One = true
takes One Any = false
takes Any sign = false

-- nothing is left
abbrev pub is_end : List Sign → Bool
is_end [] = true
is_end (x ∷ signs) = false

-- the one pattern begins like the other, and then is `*`: it matches each text that the other matches
abbrev pub covers : List Sign → List Sign → Bool
covers [] other = false
covers (x ∷ one) [] = is_run x && is_end one
covers (x ∷ one) (y ∷ other) = if is_run x then is_end one else (takes x y && covers one other)

-- those of the patterns that may match a text which the line's pattern matches
abbrev pub near : List Sign → List (List Sign) → List (List Sign)
near line patterns = filter (λ pattern. not (are_apart pattern line)) patterns

-- there are some, and none of them matches each such text
abbrev pub tells : List Sign → List (List Sign) → Bool
tells line [] = false
tells line (pattern ∷ patterns) = not (list_any (λ own. covers own line) (pattern ∷ patterns))

abbrev pub telling : List Sign → List (List (List Sign)) → List (List (List Sign))
telling line groups = filter (tells line) (map (near line) groups)
