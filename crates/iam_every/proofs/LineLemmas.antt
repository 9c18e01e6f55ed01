-- Which texts a line speaks of, and its rows.
use Rattle.std.proofs.Common.{◌≡◌, ◌<◌, ◌≤◌, ◌+◌, ◌∷◌, [], ◌++◌, inl, inr, Bool, true, false, ◌&&◌, List, ℕ, zero, suc, ltb, Some, Contains, arith, below_more, chars, get_or, length, map, take, refl, sym, ap, subst, ◌∙◌}
use Rattle.std.proofs.lemmas.Bool.{cases_lt}
use Rattle.std.proofs.lemmas.Bool.Decides.{nat_tests}
use Rattle.std.proofs.lemmas.List.{get_or-map, get_or-take, length-map, length-take-le, map_more}
use Rattle.std.proofs.lemmas.List.Elements.{All-contains, Contains-append_left, Contains-append_right}
use Rattle.std.proofs.lemmas.Option.{get_or_from_slice_get, slice_get-get_or, slice_get_read, slice_get_within}
use Rattle.std.proofs.lemmas.Str.{encodes-chars, scalars-chars}
use Rattle.std.proofs.Math.Utf8.{encodes, scalar, scalars}
use Rattle.std.specs.Char.{IsScalar}
use Rattle.std.specs.List.{All, Any, list_all, slice_get}
use Rattle.std.specs.Str.{IsAscii, IsUtf8}
use Rattle.iam_glob.specs.Glob.{Matches}
use Rattle.iam_glob.specs.declared.sign.Sign.{Sign}
use Rattle.iam_kinds.specs.Kinds.{Agree, IsMeant, IsText}
use Rattle.iam_world.specs.World.{ResourceValue, WorldValue}
use Rattle.iam_layers.specs.Cell.{IsResource}
use Rattle.iam_every.specs.Code.Rows.{AreMatched, IsFirstOf}
use Rattle.iam_every.specs.Every.{EveryValue, IsFirst, IsNamed, LineValue, arn_signs, line_of, line_question, patterns_of}
use Rattle.iam_every.specs.Groups.{AgreeOn}
use Rattle.iam_every.specs.declared.asked.Line.{Line}
use Rattle.iam_every.proofs.ListLemmas.{first_or, here, mapped, none, of_mapped}
use Rattle.iam_every.proofs.NamesLemmas.{one_some}
use Rattle.iam_every.proofs.TellingLemmas.{tells_enough}
use Rattle.iam_every.proofs.WalkLemmas.{at_map}

-- ---- members by their numbers
pub at_in : {X : Type 0} (xs : List X) (k : ℕ) (x : X) → slice_get xs k ≡ Some x → Contains xs x
at_in xs k x at = (k, slice_get_within xs k x at, get_or_from_slice_get xs k x x at)

pub in_at : {X : Type 0} (xs : List X) (x : X) → Contains xs x → (k : ℕ) × (slice_get xs k ≡ Some x)
in_at xs x (k, below, at) = (k, slice_get_read xs (length xs) k x refl below (sym at))

-- the line that is read is that with its number
pub line_there : (lines : List Line) (k : ℕ) (d : Line) (line : LineValue) → slice_get (map line_of lines) k ≡ Some line
    → line_of (get_or lines k d) ≡ line
line_there lines k d line at =
    let below : k < length lines = omega (arith, slice_get_within (map line_of lines) k line at, length-map lines line_of) in
    sym (get_or-map line_of lines k d (line_of d) below) ∙ get_or_from_slice_get (map line_of lines) k line (line_of d) at

pub line_at : (lines : List Line) (k : ℕ) (found : Line) → k < length lines → found ≡ get_or lines k found
    → slice_get (map line_of lines) k ≡ Some (line_of found)
line_at lines k found below is =
    slice_get_read (map line_of lines) (length lines) k (line_of found) (sym (length-map lines line_of)) below (at_map line_of lines k found below is)

pub line_read : (lines : List Line) (k : ℕ) (d : Line) → k < length lines → slice_get (map line_of lines) k ≡ Some (line_of (get_or lines k d))
line_read lines k d below =
    slice_get-get_or (map line_of lines) k (line_of d) (omega (arith, below, length-map lines line_of))
    ∙ ap (λ (x : LineValue). Some x) (get_or-map line_of lines k d (line_of d) below)

-- what holds of all lines holds of it
pub line_has : (P : LineValue → Type 0) (lines : List Line) (k : ℕ) (d : Line) → All P (map line_of lines) → k < length lines
    → P (line_of (get_or lines k d))
line_has P lines k d all below =
    subst P (get_or-map line_of lines k d (line_of d) below) (all k (line_of d) (omega (arith, below, length-map lines line_of)))

-- one more element, that has the number
pub next_more : {X Y : Type 0} (f : X → Y) (xs : List X) (k : ℕ) (x : X) → slice_get xs k ≡ Some x
    → map f (take k xs) ++ (f x ∷ []) ≡ map f (take (k + 1) xs)
next_more {X} {Y} f xs k x at =
    ap (λ (y : X). map f (take k xs) ++ (f y ∷ [])) (sym (get_or_from_slice_get xs k x x at)) ∙ sym (map_more f xs k x (slice_get_within xs k x at))

-- where nothing holds of the lines before, and not of this one
pub none_more : (P : LineValue → Type 0) (lines : List LineValue) (k : ℕ) (line : LineValue)
    → ((j : ℕ) (other : LineValue) → j < k → slice_get lines j ≡ Some other → ¬ P other) → slice_get lines k ≡ Some line → ¬ P line
    → (j : ℕ) (other : LineValue) → j < k + 1 → slice_get lines j ≡ Some other → ¬ P other
none_more P lines k line before at never j other below there =
    below_more (λ i. (x : LineValue) → slice_get lines i ≡ Some x → ¬ P x) k (λ i b x is. before i x b is)
    (λ x is p. never (subst P (one_some (slice_get lines k) x line is at) p)) j below other there

pub none_of_all : (P : LineValue → Type 0) (lines : List LineValue) (n : ℕ) → length lines ≤ n
    → ((j : ℕ) (other : LineValue) → j < n → slice_get lines j ≡ Some other → ¬ P other) → ¬ Any P lines
none_of_all P lines n long before (k, line, below, at, p) =
    before k line (omega (arith, below, long)) (slice_get_read lines (length lines) k line refl below (sym at)) p

front_in : {X : Type 0} (xs : List X) (k j : ℕ) (x : X) → j < k → k < length xs → slice_get xs j ≡ Some x → Contains (take k xs) x
front_in xs k j x before inside at =
    let long : length (take k xs) ≡ k = length-take-le k xs (omega (arith, inside)) in
    (j, omega (arith, long, before), get_or-take k xs j x before ∙ get_or_from_slice_get xs j x x at)

pub one_first : (lines : List LineValue) (text : List ℕ) (j k : ℕ) (one other : LineValue) → IsFirst lines text j one → IsFirst lines text k other → j ≡ k
one_first lines text j k one other first second =
    let early : ¬ (j < k) = λ below. second.first j one below first.at first.matches in
    let late : ¬ (k < j) = λ below. first.first k other below second.at second.matches in
    omega (arith, early, late)

pub first_some : (lines : List LineValue) (text : List ℕ) (k : ℕ) (line : LineValue) → IsFirst lines text k line
    → Any (λ x. Matches x.pattern (chars text)) lines
first_some lines text k line first =
    (k, line, slice_get_within lines k line first.at, get_or_from_slice_get lines k line line first.at, first.matches)

-- ---- characters
pub ascii : (bs : List ℕ) → list_all (λ b. ltb b 128) bs ≡ true → IsAscii bs
ascii [] all i = omega arith
ascii (b ∷ bs) all zero = elim (cases_lt b 128) [ inl below ↦ below | inr above ↦ absurd (let wrong : ⊥ = grind (arith, nat_tests) in wrong) ]
ascii (b ∷ bs) all (suc i) = ascii bs (later (ltb b 128) (list_all (λ b. ltb b 128) bs) all) i
  where
    later : (one other : Bool) → (one && other) ≡ true → other ≡ true
    later true other both = both
    later false other both = absurd (let wrong : ⊥ = cc in wrong)

scalars_in : (cs : List ℕ) → scalars cs ≡ true → IsText cs
scalars_in [] all c in' = absurd (none c in')
scalars_in (d ∷ cs) all c in' = elim (first_or d c cs in') [
  | inl same ↦ subst IsScalar same (front (scalar d) (scalars cs) all)
  | inr later ↦ scalars_in cs (back (scalar d) (scalars cs) all) c later
]
  where
    front : (one other : Bool) → (one && other) ≡ true → one ≡ true
    front true other both = refl
    front false other both = both

    back : (one other : Bool) → (one && other) ≡ true → other ≡ true
    back true other both = both
    back false other both = absurd (let wrong : ⊥ = cc in wrong)

pub text_scalars : (text : List ℕ) → IsUtf8 text → IsText (chars text)
text_scalars text utf8 = scalars_in (chars text) (scalars-chars text utf8)

pub same_text : (one other : List ℕ) → IsUtf8 one → IsUtf8 other → chars one ≡ chars other → one ≡ other
same_text one other u w same = sym (encodes-chars one u) ∙ ap encodes same ∙ encodes-chars other w

-- ---- names
pub named_in : (world : WorldValue) (text : List ℕ) → IsNamed world text → Contains (map (λ resource. resource.arn) world.resources) text
named_in world text (r, (resource, at, is)) =
    subst (Contains (map (λ (x : ResourceValue). x.arn) world.resources)) is
    (mapped (λ (x : ResourceValue). x.arn) resource world.resources (at_in world.resources r resource at))

pub in_named : (world : WorldValue) (text : List ℕ) → Contains (map (λ resource. resource.arn) world.resources) text → IsNamed world text
in_named world text among =
    let (resource, there, is) = of_mapped (λ (x : ResourceValue). x.arn) text world.resources among in
    let (r, at) = in_at world.resources resource there in
    (r, (resource, at, is))

-- ---- texts that a line speaks of
pub asked_about : (every : EveryValue) (k : ℕ) (line : LineValue) (groups : List (List (List Sign))) (text : List ℕ)
    → All IsUtf8 (map (λ resource. resource.arn) every.world.resources) → IsUtf8 text → Matches line.pattern (chars text)
    → Matches arn_signs (chars text) → ¬ IsNamed every.world text → IsMeant (line_question every k line groups) (chars text)
asked_about every k line groups text names utf8 matches arn unnamed = record {
  grammar = tt;
  within = λ pattern in'. elim (first_or line.pattern pattern (arn_signs ∷ []) in') [
    | inl same ↦ subst (λ (x : List Sign). Matches x (chars text)) same matches
    | inr later ↦ elim (first_or arn_signs pattern [] later) [
      | inl same ↦ subst (λ (x : List Sign). Matches x (chars text)) same arn
      | inr never ↦ absurd (none pattern never)
    ]
  ];
  unnamed = λ among.
      let arns = map (λ (x : ResourceValue). x.arn) every.world.resources in
      let (name, there, is) = of_mapped chars (chars text) arns among in
      let same = same_text name text (All-contains IsUtf8 arns name names there) utf8 is in
      unnamed (in_named every.world text (subst (Contains arns) same there));
}

-- a text that the answer shows
pub shown_unnamed : (every : EveryValue) (k : ℕ) (line : LineValue) (groups : List (List (List Sign))) (text : List ℕ)
    → IsMeant (line_question every k line groups) (chars text) → ¬ IsNamed every.world text
shown_unnamed every k line groups text meant is =
    meant.unnamed (mapped chars text (map (λ (x : ResourceValue). x.arn) every.world.resources) (named_in every.world text is))

-- of whose kind the text is: all groups agree, and the same line is the first to speak of it
all_agree : (every : EveryValue) (k : ℕ) (line : LineValue) (groups : List (List (List Sign))) (shown text : List ℕ)
    → IsMeant (line_question every k line groups) (chars shown) → Agree (line_question every k line groups) (chars shown) (chars text)
    → IsFirst every.lines text k line → AgreeOn (groups ++ map (λ pattern. pattern ∷ []) (patterns_of (take k every.lines))) (chars shown) (chars text)
all_agree every k line groups shown text meant agree is =
    tells_enough line.pattern (groups ++ map (λ pattern. pattern ∷ []) (patterns_of (take k every.lines))) (chars shown) (chars text)
    (meant.within line.pattern (here line.pattern (arn_signs ∷ []))) is.matches agree

pub shown_first : (every : EveryValue) (k : ℕ) (line : LineValue) (groups : List (List (List Sign))) (shown text : List ℕ)
    → IsMeant (line_question every k line groups) (chars shown) → Agree (line_question every k line groups) (chars shown) (chars text)
    → IsFirst every.lines text k line → IsFirst every.lines shown k line
shown_first every k line groups shown text meant agree is = record {
  at = is.at;
  matches = meant.within line.pattern (here line.pattern (arn_signs ∷ []));
  first = λ j other before at matches.
      let alone : List Sign → List (List Sign) = λ pattern. pattern ∷ [] in
      let front = take k every.lines in
      let among : Contains front other = front_in every.lines k j other before (slice_get_within every.lines k line is.at) at in
      let own = mapped alone other.pattern (patterns_of front) (mapped (λ (x : LineValue). x.pattern) other front among) in
      let both = all_agree every k line groups shown text meant agree is (alone other.pattern)
      (Contains-append_right groups (map alone (patterns_of front)) (alone other.pattern) own) in
      let (pattern, there, told) = both.0 (other.pattern, here other.pattern [], matches) in
      elim (first_or other.pattern pattern [] there) [
        | inl same ↦ is.first j other before at (subst (λ (x : List Sign). Matches x (chars text)) (sym same) told)
        | inr never ↦ none pattern never
      ];
}

pub shown_agree : (every : EveryValue) (k : ℕ) (line : LineValue) (groups : List (List (List Sign))) (shown text : List ℕ)
    → IsMeant (line_question every k line groups) (chars shown) → Agree (line_question every k line groups) (chars shown) (chars text)
    → IsFirst every.lines text k line → AgreeOn groups (chars shown) (chars text)
shown_agree every k line groups shown text meant agree is group in' =
    all_agree every k line groups shown text meant agree is group
    (Contains-append_left groups (map (λ pattern. pattern ∷ []) (patterns_of (take k every.lines))) group in')

-- ---- resources that some line matches
pub matched_first : (every : EveryValue) (matched : List ℕ) (i r : ℕ) → AreMatched every.world every.lines matched → i < length matched
    → r ≡ get_or matched i r → IsResource every.world r (λ resource. (k : ℕ) × IsFirstOf every.lines resource.arn k)
matched_first every matched i r are below is =
    subst (λ (s : ℕ). IsResource every.world s (λ resource. (k : ℕ) × IsFirstOf every.lines resource.arn k)) (sym is) (are.first i r below)

pub matched_there : (every : EveryValue) (matched : List ℕ) (i r : ℕ) → AreMatched every.world every.lines matched → i < length matched
    → r ≡ get_or matched i r → r < length every.world.resources
matched_there every matched i r are below is =
    let (resource, at, first) = matched_first every matched i r are below is in slice_get_within every.world.resources r resource at
