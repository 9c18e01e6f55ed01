-- Texts that are looked at are collected.
use Rattle.std.proofs.Common.{◌≡◌, ◌<◌, ◌+◌, ◌⊎◌, ◌∷◌, [], ◌++◌, inl, inr, List, ℕ, All, Any, Contains, Some, arith, chars, codes, get_or, length, map, refl, sym, ap, subst, ◌∙◌}
use Rattle.std.proofs.lemmas.Bool.{cases_lt}
use Rattle.std.proofs.lemmas.List.Elements.{All-append, All-cons, All-contains, All-nil, Contains-append_left, Contains-append_right, Contains-get_or, Contains-push_cases}
use Rattle.std.proofs.lemmas.Option.{slice_get_within}
use Rattle.std.proofs.lemmas.Str.{IsUtf8-from_ascii}
use Rattle.std.specs.List.{range_with_len, slice_get}
use Rattle.std.specs.Str.{IsUtf8}
use Rattle.iam_glob.specs.Glob.{Matches}
use Rattle.iam_layers.specs.declared.unnamed.Unnamed.{Unnamed}
use Rattle.iam_layers.specs.declared.unnamed.Unnamed.TheVariants.{Like}
use Rattle.iam_every.specs.Code.Rows.{AreMatched, IsFirstOf, IsLined, IsLinedBelow, IsNamedAmong, IsStar}
use Rattle.iam_every.specs.Every.{EveryValue, IsFirst, IsMatched, IsNamed, LineValue, Says}
use Rattle.iam_every.proofs.LineLemmas.{ascii, first_some, one_first}
use Rattle.iam_every.proofs.ListLemmas.{here, mapped, of_mapped}
use Rattle.iam_every.proofs.MeantLemmas.{in_range}
use Rattle.iam_every.proofs.MemberLemmas.{in_chosen}
use Rattle.iam_every.proofs.NamesLemmas.{one_some}
use Rattle.iam_open_every.specs.Code.Spots.{AreSpotsOn}
use Rattle.iam_open_every.specs.Spots.{AreSpots, IsLineUnshown, IsSpot, IsTextSpot, SpotValue, StandsFor, text_spot, unshown_spot}
use Rattle.iam_open_every.specs.Texts.{AreAllTexts}
use Rattle.iam_world.specs.World.{ResourceValue}

abbrev Among : EveryValue → ℕ → List SpotValue → List ℕ → Unnamed → Type 0
Among every p spots text unnamed = (spot : SpotValue) × Contains spots spot × StandsFor every p text unnamed spot

among_left : (every : EveryValue) (p : ℕ) (xs ys : List SpotValue) (text : List ℕ) (unnamed : Unnamed) → Among every p xs text unnamed
    → Among every p (xs ++ ys) text unnamed
among_left every p xs ys text unnamed (spot, there, how) = (spot, Contains-append_left xs ys spot there, how)

among_right : (every : EveryValue) (p : ℕ) (xs ys : List SpotValue) (text : List ℕ) (unnamed : Unnamed) → Among every p ys text unnamed
    → Among every p (xs ++ ys) text unnamed
among_right every p xs ys text unnamed (spot, there, how) = (spot, Contains-append_right xs ys spot there, how)

pub spots_none : (every : EveryValue) (p : ℕ) (P : List ℕ → Unnamed → Type 0)
    → ((text : List ℕ) (unnamed : Unnamed) → Says every text unnamed → ¬ P text unnamed) → AreSpotsOn every p P []
spots_none every p P never = record {
  right = All-nil (IsSpot every p);
  whole = λ text unnamed resource says holds. absurd (never text unnamed says holds);
}

spots_joined : (every : EveryValue) (p : ℕ) (P Q R : List ℕ → Unnamed → Type 0) (xs ys : List SpotValue)
    → AreSpotsOn every p P xs → AreSpotsOn every p Q ys
    → ((text : List ℕ) (unnamed : Unnamed) → R text unnamed → P text unnamed ⊎ Q text unnamed) → AreSpotsOn every p R (xs ++ ys)
spots_joined every p P Q R xs ys one other either = record {
  right = All-append (IsSpot every p) xs ys one.right other.right;
  whole = λ text unnamed resource says r. elim (either text unnamed r) [
    | inl here ↦ among_left every p xs ys text unnamed (one.whole text unnamed resource says here)
    | inr there ↦ among_right every p xs ys text unnamed (other.whole text unnamed resource says there)
  ];
}

-- a text of which this alone can be said
spot_alone : (every : EveryValue) (p : ℕ) (P : List ℕ → Unnamed → Type 0) (text : List ℕ) (unnamed : Unnamed) → IsTextSpot every text unnamed
    → ((its : List ℕ) (said : Unnamed) → Says every its said → P its said → (its ≡ text) × (said ≡ unnamed))
    → AreSpotsOn every p P (text_spot unnamed text ∷ [])
spot_alone every p P text unnamed is only = record {
  right = All-cons (IsSpot every p) (text_spot unnamed text) [] is (All-nil (IsSpot every p));
  whole = λ its said resource says holds.
      let (same, alike) = only its said says holds in
      (text_spot unnamed text, here (text_spot unnamed text) [], (sym alike, inl (sym same)));
}

-- ---- of the resources of the world
pub named_more : (every : EveryValue) (p : ℕ) (done : List ℕ) (r : ℕ) (resource : ResourceValue) (k : ℕ) (spots : List SpotValue)
    → AreSpotsOn every p (IsNamedAmong every done) spots → slice_get every.world.resources r ≡ Some resource → IsFirstOf every.lines resource.arn k
    → AreSpotsOn every p (IsNamedAmong every (done ++ (r ∷ []))) (spots ++ (text_spot (Like r) resource.arn ∷ []))
named_more every p done r resource k spots are at (line, first) =
    let text = resource.arn in
    let At : List ℕ → Unnamed → Type 0 = λ its said. (its ≡ text) × (said ≡ Like r) in
    let its_spot : IsTextSpot every text (Like r) = record {
      says = (k, line, first, inl (r, (resource, at, refl), refl));
      can = inl (r, (resource, at, refl));
    } in
    spots_joined every p (IsNamedAmong every done) At (IsNamedAmong every (done ++ (r ∷ []))) spots (text_spot (Like r) text ∷ []) are
    (spot_alone every p At text (Like r) its_spot (λ its said says same. same))
    (λ its said (s, among, (found, there, named), alike). elim (Contains-push_cases done r s among) [
      | inl before ↦ inl (s, before, (found, there, named), alike)
      | inr same ↦
          let one : found ≡ resource =
          one_some (slice_get every.world.resources r) found resource (subst (λ n. slice_get every.world.resources n ≡ Some found) (sym same) there) at in
          inr (sym named ∙ ap (λ (x : ResourceValue). x.arn) one, alike ∙ ap (λ n. Like n) (sym same))
    ])

-- ---- of `*`
pub star_alone : (every : EveryValue) (p k : ℕ) (line : LineValue) → ¬ IsNamed every.world (codes "*") → IsFirst every.lines (codes "*") k line
    → AreSpotsOn every p (IsStar every) (text_spot line.unnamed (codes "*") ∷ [])
star_alone every p k line never first =
    let its_spot : IsTextSpot every (codes "*") line.unnamed = record {
      says = (k, line, first, inr (never, refl));
      can = inr (record { utf8 = IsUtf8-from_ascii (codes "*") (ascii (codes "*") refl); form = inl refl });
    } in
    spot_alone every p (IsStar every) (codes "*") line.unnamed its_spot
    (λ its said (j, other, other_first, how) (no_name, star).
    let its_first : IsFirst every.lines (codes "*") j other = subst (λ (x : List ℕ). IsFirst every.lines x j other) star other_first in
    let number : j ≡ k = one_first every.lines (codes "*") j k other line its_first first in
    let one : other ≡ line =
    one_some (slice_get every.lines k) other line (subst (λ n. slice_get every.lines n ≡ Some other) number its_first.at) first.at in (
      star,
      elim how [
        | inl (r, named, like) ↦ absurd (no_name (r, named))
        | inr (unheard, said_is) ↦ said_is ∙ ap (λ (x : LineValue). x.unnamed) one
      ],
    ))

pub star_unlined : (every : EveryValue) (p : ℕ) → ¬ Any (λ line. Matches line.pattern (chars (codes "*"))) every.lines
    → AreSpotsOn every p (IsStar every) []
star_unlined every p never =
    spots_none every p (IsStar every) (λ text unnamed (k, line, first, how) (no_name, star).
    never (first_some every.lines (codes "*") k line (subst (λ (x : List ℕ). IsFirst every.lines x k line) star first)))

pub star_named : (every : EveryValue) (p : ℕ) → IsNamed every.world (codes "*") → AreSpotsOn every p (IsStar every) []
star_named every p named =
    spots_none every p (IsStar every) (λ text unnamed says (no_name, star). no_name (subst (IsNamed every.world) (sym star) named))

-- ---- of lines
lt_or_eq : (j k : ℕ) → j < k + 1 → (j < k) ⊎ (j ≡ k)
lt_or_eq j k below = elim (cases_lt j k) [ inl before ↦ inl before | inr late ↦ inr (omega (arith, below, late)) ]

pub lined_more : (every : EveryValue) (p k : ℕ) (spots more : List SpotValue) → AreSpotsOn every p (IsLinedBelow every k) spots
    → AreSpotsOn every p (IsLined every k) more → AreSpotsOn every p (IsLinedBelow every (k + 1)) (spots ++ more)
lined_more every p k spots more are further =
    spots_joined every p (IsLinedBelow every k) (IsLined every k) (IsLinedBelow every (k + 1)) spots more are further
    (λ text unnamed (j, below, lined). elim (lt_or_eq j k below) [
      | inl before ↦ inl (j, before, lined)
      | inr same ↦ inr (subst (λ i. IsLined every i text unnamed) same lined)
    ])

pub lined_none : (every : EveryValue) (p : ℕ) → AreSpotsOn every p (IsLinedBelow every 0) []
lined_none every p = spots_none every p (IsLinedBelow every 0) (λ text unnamed says (k, below, lined). omega (arith, below))

-- the texts that are shown
pub lined_shown : (every : EveryValue) (p k : ℕ) (line : LineValue) (texts : List (List ℕ)) → slice_get every.lines k ≡ Some line → All IsUtf8 texts
    → AreAllTexts every p k texts → AreSpotsOn every p (IsLined every k) (map (text_spot line.unnamed) texts)
lined_shown every p k line texts at utf8 are =
    let spots = map (text_spot line.unnamed) texts in
    record {
      right = λ i d below.
          let spot = get_or spots i d in
          let (text, among, is) = of_mapped (text_spot line.unnamed) spot texts (Contains-get_or spots i d below) in
          let (unnamed, (never, arn, (found, first, same))) = lined_in text among in
          let one : found ≡ line = one_some (slice_get every.lines k) found line first.at at in
          let its : IsTextSpot every text line.unnamed = record {
            says = (k, found, first, inr (never, ap (λ (x : LineValue). x.unnamed) (sym one)));
            can = inr (record { utf8 = All-contains IsUtf8 texts text utf8 among; form = inr arn });
          } in
          subst (IsSpot every p) is its;
      whole = λ text unnamed resource says (never, arn, (found, first, same)).
          let one : found ≡ line = one_some (slice_get every.lines k) found line first.at at in
          let said : unnamed ≡ line.unnamed = same ∙ ap (λ (x : LineValue). x.unnamed) one in
          let (shown, among, alike) = are.whole text unnamed resource.utf8 (never, arn, (found, first, same)) in
          (text_spot line.unnamed shown, mapped (text_spot line.unnamed) shown texts among, (sym said, inr alike));
    }
  where
    lined_in : (text : List ℕ) → Contains texts text → (unnamed : Unnamed) × IsLined every k text unnamed
    lined_in text among = All-contains (λ (its : List ℕ). (unnamed : Unnamed) × IsLined every k its unnamed) texts text are.lined among

-- or one says that they are not
pub lined_unshown : (every : EveryValue) (p k : ℕ) (line : LineValue) → slice_get every.lines k ≡ Some line → IsLineUnshown every p k line
    → AreSpotsOn every p (IsLined every k) (unshown_spot line.text ∷ [])
lined_unshown every p k line at how = record {
  right = All-cons (IsSpot every p) (unshown_spot line.text) [] (k, line, at, refl, how) (All-nil (IsSpot every p));
  whole = λ text unnamed resource says (never, arn, (found, first, same)).
      let one : line ≡ found = one_some (slice_get every.lines k) line found at first.at in
      (unshown_spot line.text, here (unshown_spot line.text) [], (never, (k, found, first, ap (λ (x : LineValue). x.text) one)));
}

-- ---- all
pub all_spots : (every : EveryValue) (p : ℕ) (matched : List ℕ) (named star lined : List SpotValue) → AreMatched every.world every.lines matched
    → AreSpotsOn every p (IsNamedAmong every matched) named → AreSpotsOn every p (IsStar every) star
    → AreSpotsOn every p (IsLinedBelow every (length every.lines)) lined → AreSpots every p ((named ++ star) ++ lined)
all_spots every p matched named star lined are_matched is_named is_star is_lined = record {
  right = All-append (IsSpot every p) (named ++ star) lined (All-append (IsSpot every p) named star is_named.right is_star.right) is_lined.right;
  whole = λ text unnamed resource says.
      let (k, line, first, how) = says in
      elim how [
        | inl (r, (found, at, is), like) ↦
            let n = length every.world.resources in
            let below = slice_get_within every.world.resources r found at in
            let holds : IsMatched every.world every.lines r =
            (found, at, first_some every.lines found.arn k line (subst (λ (t : List ℕ). IsFirst every.lines t k line) (sym is) first)) in
            let among = in_chosen (IsMatched every.world every.lines) (range_with_len 0 n) matched r are_matched.selected (in_range n r below) holds in
            among_left every p (named ++ star) lined text unnamed (among_left every p named star text unnamed
            (is_named.whole text unnamed resource says (r, among, (found, at, is), like)))
        | inr (never, same) ↦ elim resource.form [
          | inl only ↦
              among_left every p (named ++ star) lined text unnamed (among_right every p named star text unnamed
              (is_star.whole text unnamed resource says (never, only)))
          | inr arn ↦
              among_right every p (named ++ star) lined text unnamed
              (is_lined.whole text unnamed resource says (k, slice_get_within every.lines k line first.at, (never, arn, (line, first, same))))
        ]
      ];
}
