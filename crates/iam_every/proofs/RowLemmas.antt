-- Rows are collected.
use Rattle.std.proofs.Common.{◌≡◌, ◌<◌, ◌+◌, ◌⊎◌, ◌∷◌, [], ◌++◌, inl, inr, List, ℕ, Option, Some, None, All, Any, Contains, MatchOption, arith, chars, codes, get_or, length, map, refl, sym, ap, subst, ◌∙◌}
use Rattle.std.proofs.lemmas.Bool.{cases_lt}
use Rattle.std.proofs.lemmas.List.Elements.{All-append, All-cons, All-contains, All-nil, Contains-append_left, Contains-append_right, Contains-get_or, Contains-push_cases}
use Rattle.std.proofs.lemmas.Option.{slice_get_within}
use Rattle.std.proofs.lemmas.Str.{IsUtf8-from_ascii}
use Rattle.std.specs.List.{range_with_len, slice_get}
use Rattle.std.specs.Str.{IsUtf8}
use Rattle.iam_glob.specs.Glob.{Matches}
use Rattle.iam_glob.specs.declared.sign.Sign.{Sign}
use Rattle.iam_kinds.specs.Kinds.{Agree}
use Rattle.iam_kinds.specs.Shown.{AreKinds}
use Rattle.iam_kinds.specs.States.{PassesLimit}
use Rattle.iam_decision.specs.declared.verdict.Verdict.{Verdict}
use Rattle.iam_world.specs.World.{ResourceValue}
use Rattle.iam_layers.specs.Unnamed.{IsUnnamedDecision, IsUnnamedVerdict}
use Rattle.iam_layers.specs.declared.unnamed.Unnamed.{Unnamed}
use Rattle.iam_layers.specs.declared.unnamed.Unnamed.TheVariants.{Like}
use Rattle.iam_every.specs.Code.Rows.{AreMatched, AreRowsOfTexts, AreRowsOn, IsFirstOf, IsLined, IsLinedBelow, IsNamedAmong, IsNamedBelow, IsStar, IsToldAs}
use Rattle.iam_every.specs.Every.{ActionsPass, AreActions, AreDecidedAlike, AreOneKind, AreRowsFor, EveryValue, HasVerdict, IsFirst, IsMatched, IsMeantAction, IsNamed, IsOver, IsResourceText, IsRight, IsToldBy, LineValue, RowValue, Says, Tells, TextsPass, arn_signs, line_question}
use Rattle.iam_every.specs.Made.{AreMade, IsRowOf, unshown_row}
use Rattle.iam_every.specs.Names.{AreGroupsAt}
use Rattle.iam_every.specs.OwnGroups.{AreOwnGroupsAt}
use Rattle.iam_every.specs.Rows.{AreRows}
use Rattle.iam_every.proofs.LineLemmas.{ascii, asked_about, at_in, in_at, first_some, one_first, shown_agree, shown_first, shown_unnamed, text_scalars}
use Rattle.iam_every.proofs.ListLemmas.{behind, here, mapped, of_mapped}
use Rattle.iam_every.proofs.MeantLemmas.{in_range}
use Rattle.iam_every.proofs.MemberLemmas.{in_chosen}
use Rattle.iam_every.proofs.NamesLemmas.{alike_names, one_some}

-- ---- a row
pub decided_by : (every : EveryValue) (p : ℕ) (unnamed : Unnamed) (action text : List ℕ) (verdict : Verdict)
    → IsUnnamedVerdict every.world p unnamed action text verdict → IsUnnamedDecision every.world p unnamed action text verdict.decision
decided_by every p unnamed action text verdict (resource, said, (a, request, at, is)) = (resource, said, (a, request, at, is.decided))

pub told_row : (every : EveryValue) (p : ℕ) (unnamed : Unnamed) (action text : List ℕ) (row : RowValue) → IsRowOf every.world p unnamed action text row
    → Tells every p action text unnamed row
told_row every p unnamed action text row of = record {
  verdict = of.verdict;
  is = of.verdict_is;
  decides = decided_by every p unnamed action text of.verdict of.right;
  about = inl of.for_text;
}

abbrev CanBe : EveryValue → List ℕ → Type 0
CanBe every text = IsNamed every.world text ⊎ IsResourceText text

pub right_row : (every : EveryValue) (p : ℕ) (unnamed : Unnamed) (action text : List ℕ) (row : RowValue) → IsRowOf every.world p unnamed action text row
    → CanBe every text → Says every text unnamed → IsMeantAction every action → IsRight every p row
right_row every p unnamed action text row of can says meant =
    let has : HasVerdict every p row of.verdict = record {
      action = subst (IsMeantAction every) (sym of.for_action) meant;
      resource = subst (CanBe every) (sym of.for_text) can;
      unnamed = unnamed;
      says = subst (λ (its : List ℕ). Says every its unnamed) (sym of.for_text) says;
      is = subst (λ (act : List ℕ). IsUnnamedVerdict every.world p unnamed act row.resource of.verdict) (sym of.for_action)
          (subst (λ (its : List ℕ). IsUnnamedVerdict every.world p unnamed action its of.verdict) (sym of.for_text) of.right);
    } in
    subst (λ (o : Option Verdict). MatchOption o (IsOver every p row) (HasVerdict every p row)) (sym of.verdict_is) has

-- ---- of a line
-- rows for the texts that are shown are rows for all texts
pub rows_shown : (every : EveryValue) (p : ℕ) (action : List ℕ) (k : ℕ) (line : LineValue) (groups : List (List (List Sign)))
    (texts : List (List ℕ)) (rows : List RowValue) → All IsUtf8 (map (λ resource. resource.arn) every.world.resources) → All IsUtf8 texts
    → slice_get every.lines k ≡ Some line → AreGroupsAt every.world p line.unnamed action groups
    → AreKinds (line_question every k line groups) (map chars texts) → AreRowsOfTexts every p action k line texts rows
    → AreRowsOn every p action (IsLined every k) rows
rows_shown every p action k line groups texts rows names spelled_well at are kinds of = record {
  right = λ meant i d below.
      let row = get_or rows i d in
      let (text, among, first, its) = of.only row (Contains-get_or rows i d below) in
      let shown = kinds.meant (chars text) (mapped chars text texts among) in
      let unnamed = shown_unnamed every k line groups text shown in
      let arn = shown.within arn_signs (behind line.pattern arn_signs (arn_signs ∷ []) (here arn_signs [])) in
      right_row every p line.unnamed action text row its (inr (record { utf8 = All-contains IsUtf8 texts text spelled_well among; form = inr arn }))
      (k, line, first, inr (unnamed, refl)) meant;
  own = λ i d below. let (text, among, first, its) = of.only (get_or rows i d) (Contains-get_or rows i d below) in its.for_action;
  whole = λ text unnamed resource says (never, arn, (other, is, same)).
      let its : other ≡ line = one_some (slice_get every.lines k) other line is.at at in
      let first : IsFirst every.lines text k line = subst (IsFirst every.lines text k) its is in
      let said : unnamed ≡ line.unnamed = same ∙ ap (λ (x : LineValue). x.unnamed) its in
      let about = asked_about every k line groups text names resource.utf8 first.matches arn never in
      let (found, among, agree) = kinds.whole (chars text) (text_scalars text resource.utf8) about in
      let (shown, inside, spelled) = of_mapped chars found texts among in
      let alike : Agree (line_question every k line groups) (chars shown) (chars text) =
      subst (λ (x : List ℕ). Agree (line_question every k line groups) x (chars text)) (sym spelled) agree in
      let meant = kinds.meant (chars shown) (mapped chars shown texts inside) in
      let shown_is = shown_first every k line groups shown text meant alike first in
      let (row, there, of_it) = of.whole shown inside shown_is in
      let verdict = of_it.verdict in
      let decided = decided_by every p line.unnamed action shown verdict of_it.right in
      let told = alike_names every.world p line.unnamed action shown text groups verdict.decision are (shown_agree every k line groups shown text meant alike first) decided in
      let one_kind : AreOneKind every p action shown text = record {
        number = k;
        line = line;
        one_first = shown_is;
        other_first = first;
        one_unnamed = shown_unnamed every k line groups shown meant;
        other_unnamed = never;
        groups = groups;
        are = are;
        agree = shown_agree every k line groups shown text meant alike first;
      } in
      let tells : Tells every p action text unnamed row = record {
        verdict = verdict;
        is = of_it.verdict_is;
        decides = subst (λ (u : Unnamed). IsUnnamedDecision every.world p u action text verdict.decision) (sym said) told;
        about = inr (subst (λ (a : List ℕ). AreOneKind every p a row.resource text) (sym of_it.for_action)
            (subst (λ (x : List ℕ). AreOneKind every p action x text) (sym of_it.for_text) one_kind));
      } in
      (row, there, inl tells);
}

-- or one row says that they are too many
pub rows_unshown : (every : EveryValue) (p : ℕ) (action : List ℕ) (k : ℕ) (line : LineValue) (groups : List (List (List Sign))) (rows : List RowValue)
    → slice_get every.lines k ≡ Some line → AreOwnGroupsAt every.world p line.unnamed action groups → PassesLimit (line_question every k line groups)
    → rows ≡ record { action = action; resource = line.text; verdict = None } ∷ [] → AreRowsOn every p action (IsLined every k) rows
rows_unshown every p action k line groups rows at own passes is =
    let row : RowValue = record { action = action; resource = line.text; verdict = None } in
    let over : TextsPass every p action k line = record { at = at; groups = groups; own = own; passes = passes } in
    subst (AreRowsOn every p action (IsLined every k)) (sym is) (record {
      right = λ meant. All-cons (IsRight every p) row [] (k, line, at, refl, inl (meant, over)) (All-nil (IsRight every p));
      own = All-cons (λ (x : RowValue). x.action ≡ action) row [] refl (All-nil (λ (x : RowValue). x.action ≡ action));
      whole = λ text unnamed resource says (never, arn, (other, first, same)).
          let its : line ≡ other = one_some (slice_get every.lines k) line other at first.at in
          (row, here row [], inr (never, (refl, (k, other, first, ap (λ (x : LineValue). x.text) its))));
    })

-- ---- one after the other
lt_or_eq : (j k : ℕ) → j < k + 1 → (j < k) ⊎ (j ≡ k)
lt_or_eq j k below = elim (cases_lt j k) [ inl before ↦ inl before | inr late ↦ inr (omega (arith, below, late)) ]

told_left : (every : EveryValue) (p : ℕ) (action : List ℕ) (xs ys : List RowValue) (text : List ℕ) (unnamed : Unnamed)
    → IsToldAs every p xs action text unnamed → IsToldAs every p (xs ++ ys) action text unnamed
told_left every p action xs ys text unnamed (row, there, how) = (row, Contains-append_left xs ys row there, how)

told_right : (every : EveryValue) (p : ℕ) (action : List ℕ) (xs ys : List RowValue) (text : List ℕ) (unnamed : Unnamed)
    → IsToldAs every p ys action text unnamed → IsToldAs every p (xs ++ ys) action text unnamed
told_right every p action xs ys text unnamed (row, there, how) = (row, Contains-append_right xs ys row there, how)

pub rows_joined : (every : EveryValue) (p : ℕ) (action : List ℕ) (P Q R : List ℕ → Unnamed → Type 0) (xs ys : List RowValue)
    → AreRowsOn every p action P xs → AreRowsOn every p action Q ys
    → ((text : List ℕ) (unnamed : Unnamed) → R text unnamed → P text unnamed ⊎ Q text unnamed) → AreRowsOn every p action R (xs ++ ys)
rows_joined every p action P Q R xs ys one other either = record {
  right = λ meant. All-append (IsRight every p) xs ys (one.right meant) (other.right meant);
  own = All-append (λ (x : RowValue). x.action ≡ action) xs ys one.own other.own;
  whole = λ text unnamed resource says r. elim (either text unnamed r) [
    | inl here ↦ told_left every p action xs ys text unnamed (one.whole text unnamed resource says here)
    | inr there ↦ told_right every p action xs ys text unnamed (other.whole text unnamed resource says there)
  ];
}

pub rows_on_less : (every : EveryValue) (p : ℕ) (action : List ℕ) (P Q : List ℕ → Unnamed → Type 0) (rows : List RowValue)
    → AreRowsOn every p action P rows → ((text : List ℕ) (unnamed : Unnamed) → Says every text unnamed → Q text unnamed → P text unnamed)
    → AreRowsOn every p action Q rows
rows_on_less every p action P Q rows are less = record {
  right = are.right;
  own = are.own;
  whole = λ text unnamed resource says q. are.whole text unnamed resource says (less text unnamed says q);
}

pub rows_none : (every : EveryValue) (p : ℕ) (action : List ℕ) (P : List ℕ → Unnamed → Type 0)
    → ((text : List ℕ) (unnamed : Unnamed) → Says every text unnamed → ¬ P text unnamed) → AreRowsOn every p action P []
rows_none every p action P never = record {
  right = λ meant. All-nil (IsRight every p);
  own = All-nil (λ (x : RowValue). x.action ≡ action);
  whole = λ text unnamed resource says holds. absurd (never text unnamed says holds);
}

-- a row for one text, of which this alone can be said
pub row_alone : (every : EveryValue) (p : ℕ) (action : List ℕ) (P : List ℕ → Unnamed → Type 0) (text : List ℕ) (unnamed : Unnamed) (row : RowValue)
    → IsRowOf every.world p unnamed action text row → CanBe every text → Says every text unnamed
    → ((its : List ℕ) (said : Unnamed) → Says every its said → P its said → (its ≡ text) × (said ≡ unnamed))
    → AreRowsOn every p action P (row ∷ [])
row_alone every p action P text unnamed row of can says only = record {
  right = λ meant. All-cons (IsRight every p) row [] (right_row every p unnamed action text row of can says meant) (All-nil (IsRight every p));
  own = All-cons (λ (x : RowValue). x.action ≡ action) row [] of.for_action (All-nil (λ (x : RowValue). x.action ≡ action));
  whole = λ its said resource says_it holds.
      let (same, alike) = only its said says_it holds in (
        row,
        here row [],
        inl (subst (λ (x : List ℕ). Tells every p action x said row) (sym same)
            (subst (λ (u : Unnamed). Tells every p action text u row) (sym alike) (told_row every p unnamed action text row of))),
      );
}

-- ---- of the resources of the world, of `*` and of the lines
pub named_more : (every : EveryValue) (p : ℕ) (action : List ℕ) (done : List ℕ) (r : ℕ) (resource : ResourceValue) (text : List ℕ) (k : ℕ)
    (rows : List RowValue) (row : RowValue) → AreRowsOn every p action (IsNamedAmong every done) rows → slice_get every.world.resources r ≡ Some resource
    → text ≡ resource.arn → IsFirstOf every.lines text k → IsRowOf every.world p (Like r) action text row
    → AreRowsOn every p action (IsNamedAmong every (done ++ (r ∷ []))) (rows ++ (row ∷ []))
named_more every p action done r resource text k rows row are at is (line, first) of =
    let At : List ℕ → Unnamed → Type 0 = λ its said. (its ≡ text) × (said ≡ Like r) in
    rows_joined every p action (IsNamedAmong every done) At (IsNamedAmong every (done ++ (r ∷ []))) rows (row ∷ []) are
    (row_alone every p action At text (Like r) row of (inl (r, (resource, at, sym is))) (k, line, first, inl (r, (resource, at, sym is), refl)) (λ its said says same. same))
    (λ its said (s, among, (found, there, named), alike). elim (Contains-push_cases done r s among) [
      | inl before ↦ inl (s, before, (found, there, named), alike)
      | inr same ↦
          let one : found ≡ resource =
          one_some (slice_get every.world.resources r) found resource (subst (λ n. slice_get every.world.resources n ≡ Some found) (sym same) there) at in
          inr (sym named ∙ ap (λ (x : ResourceValue). x.arn) one ∙ sym is, alike ∙ ap (λ n. Like n) (sym same))
    ])

-- those of the resources that some line matches are those of all
pub named_all : (every : EveryValue) (p : ℕ) (action : List ℕ) (matched : List ℕ) (rows : List RowValue) → AreMatched every.world every.lines matched
    → AreRowsOn every p action (IsNamedAmong every matched) rows → AreRowsOn every p action (IsNamedBelow every (length every.world.resources)) rows
named_all every p action matched rows are_matched are =
    let n = length every.world.resources in
    rows_on_less every p action (IsNamedAmong every matched) (IsNamedBelow every n) rows are
    (λ text unnamed (k, line, first, how) (r, below, (resource, at, is), like).
    let holds : IsMatched every.world every.lines r =
    (resource, at, first_some every.lines resource.arn k line (subst (λ (t : List ℕ). IsFirst every.lines t k line) (sym is) first)) in
    (r, in_chosen (IsMatched every.world every.lines) (range_with_len 0 n) matched r are_matched.selected (in_range n r below) holds, (resource, at, is), like))

pub star_row : (every : EveryValue) (p : ℕ) (action : List ℕ) (k : ℕ) (line : LineValue) (unnamed : Unnamed) (row : RowValue)
    → ¬ IsNamed every.world (codes "*") → IsFirst every.lines (codes "*") k line → unnamed ≡ line.unnamed
    → IsRowOf every.world p unnamed action (codes "*") row → AreRowsOn every p action (IsStar every) (row ∷ [])
star_row every p action k line unnamed row never first same of =
    row_alone every p action (IsStar every) (codes "*") unnamed row of
    (inr (record { utf8 = IsUtf8-from_ascii (codes "*") (ascii (codes "*") refl); form = inl refl })) (k, line, first, inr (never, same))
    (λ its said (j, other, other_first, how) (no_name, star).
    let its_first : IsFirst every.lines (codes "*") j other = subst (λ (x : List ℕ). IsFirst every.lines x j other) star other_first in
    let number : j ≡ k = one_first every.lines (codes "*") j k other line its_first first in
    let one : other ≡ line =
    one_some (slice_get every.lines k) other line (subst (λ n. slice_get every.lines n ≡ Some other) number its_first.at) first.at in (
      star,
      elim how [
        | inl (r, named, like) ↦ absurd (no_name (r, named))
        | inr (unheard, said_is) ↦ said_is ∙ ap (λ (x : LineValue). x.unnamed) one ∙ sym same
      ],
    ))

pub star_unlined : (every : EveryValue) (p : ℕ) (action : List ℕ) → ¬ Any (λ line. Matches line.pattern (chars (codes "*"))) every.lines
    → AreRowsOn every p action (IsStar every) []
star_unlined every p action never =
    rows_none every p action (IsStar every) (λ text unnamed (k, line, first, how) (no_name, star).
    never (first_some every.lines (codes "*") k line (subst (λ (x : List ℕ). IsFirst every.lines x k line) star first)))

pub star_named : (every : EveryValue) (p : ℕ) (action : List ℕ) → IsNamed every.world (codes "*") → AreRowsOn every p action (IsStar every) []
star_named every p action named =
    rows_none every p action (IsStar every)
    (λ text unnamed says (no_name, star). no_name (subst (IsNamed every.world) (sym star) named))

pub lined_more : (every : EveryValue) (p : ℕ) (action : List ℕ) (k : ℕ) (rows more : List RowValue)
    → AreRowsOn every p action (IsLinedBelow every k) rows → AreRowsOn every p action (IsLined every k) more
    → AreRowsOn every p action (IsLinedBelow every (k + 1)) (rows ++ more)
lined_more every p action k rows more are further =
    rows_joined every p action (IsLinedBelow every k) (IsLined every k) (IsLinedBelow every (k + 1)) rows more are further
    (λ text unnamed (j, below, lined). elim (lt_or_eq j k below) [
      | inl before ↦ inl (j, before, lined)
      | inr same ↦ inr (subst (λ i. IsLined every i text unnamed) same lined)
    ])

-- the rows for an action
pub rows_for_one : (every : EveryValue) (p : ℕ) (action : List ℕ) (named star lined : List RowValue)
    → AreRowsOn every p action (IsNamedBelow every (length every.world.resources)) named → AreRowsOn every p action (IsStar every) star
    → AreRowsOn every p action (IsLinedBelow every (length every.lines)) lined → AreRowsFor every p action ((named ++ star) ++ lined)
rows_for_one every p action named star lined is_named is_star is_lined = record {
  right = λ meant. All-append (IsRight every p) (named ++ star) lined
      (All-append (IsRight every p) named star (is_named.right meant) (is_star.right meant)) (is_lined.right meant);
  own =
      All-append (λ (x : RowValue). x.action ≡ action) (named ++ star) lined
      (All-append (λ (x : RowValue). x.action ≡ action) named star is_named.own is_star.own) is_lined.own;
  whole = λ text resource unnamed says.
      let (k, line, first, how) = says in
      elim how [
        | inl (r, (found, at, is), like) ↦
            told_left every p action (named ++ star) lined text unnamed (told_left every p action named star text unnamed
            (is_named.whole text unnamed resource says (r, slice_get_within every.world.resources r found at, (found, at, is), like)))
        | inr (never, same) ↦ elim resource.form [
          | inl only ↦
              told_left every p action (named ++ star) lined text unnamed (told_right every p action named star text unnamed
              (is_star.whole text unnamed resource says (never, only)))
          | inr arn ↦
              told_right every p action (named ++ star) lined text unnamed
              (is_lined.whole text unnamed resource says (k, slice_get_within every.lines k line first.at, (never, arn, (line, first, same))))
        ]
      ];
}

-- ---- of actions
abbrev pub IsToldFor : EveryValue → ℕ → List RowValue → List ℕ → List ℕ → Unnamed → Type 0
IsToldFor every p rows action text unnamed =
    (row : RowValue) × Contains rows row × (row.action ≡ action) × IsToldBy every p action text unnamed row

pub record AreRowsOfActions (every : EveryValue) (p : ℕ) (actions : List (List ℕ)) (rows : List RowValue) : Type 0 where
  pub right : All (IsRight every p) rows
  pub whole : (action text : List ℕ) (unnamed : Unnamed) → Contains actions action → IsResourceText text → Says every text unnamed
      → IsToldFor every p rows action text unnamed

pub actions_more : (every : EveryValue) (p : ℕ) (actions : List (List ℕ)) (rows more : List RowValue) (action : List ℕ)
    → AreRowsOfActions every p actions rows → IsMeantAction every action → AreRowsFor every p action more
    → AreRowsOfActions every p (actions ++ (action ∷ [])) (rows ++ more)
actions_more every p actions rows more action are meant further = record {
  right = All-append (IsRight every p) rows more are.right (further.right meant);
  whole = λ its text unnamed in' resource says. elim (Contains-push_cases actions action its in') [
    | inl was ↦
        let (row, there, same, how) = are.whole its text unnamed was resource says in
        (row, Contains-append_left rows more row there, same, how)
    | inr same ↦
        let (row, there, how) = further.whole text resource unnamed says in
        let own = All-contains (λ (x : RowValue). x.action ≡ action) more row further.own there in
        subst (λ (x : List ℕ). IsToldFor every p (rows ++ more) x text unnamed) same (row, Contains-append_right rows more row there, own, how)
  ];
}

-- what is told of an action is told of one that is decided alike
told_alike : (every : EveryValue) (p : ℕ) (shown action text : List ℕ) (unnamed : Unnamed) (row : RowValue) → AreDecidedAlike every p shown action
    → Says every text unnamed → IsToldBy every p shown text unnamed row → IsToldBy every p action text unnamed row
told_alike every p shown action text unnamed row alike says (inl tells) = inl (record {
  verdict = tells.verdict;
  is = tells.is;
  decides = alike text unnamed tells.verdict.decision says tells.decides;
  about = tells.about;
})
told_alike every p shown action text unnamed row alike says (inr unshown) = inr unshown

-- each action that is meant is decided like one of them
pub actions_all : (every : EveryValue) (p : ℕ) (actions : List (List ℕ)) (rows : List RowValue) → AreActions every p actions
    → AreRowsOfActions every p actions rows → AreMade every p rows → AreRows every p rows
actions_all every p actions rows actions_are are made = record {
  right = are.right;
  whole = λ action text unnamed meant resource says.
      let (shown, among, alike) = actions_are.whole action meant in
      let (row, there, same, how) = are.whole shown text unnamed among resource says in (
        row,
        there,
        inl (subst (λ (x : List ℕ). AreDecidedAlike every p x action) (sym same) alike, told_alike every p shown action text unnamed row alike says how),
      );
  made = made;
}

-- where the actions are too many no line is shown
pub unshown_all : (every : EveryValue) (p : ℕ) (rows : List RowValue) → rows ≡ map (unshown_row every.written) every.lines → ActionsPass every p
    → AreRows every p rows
unshown_all every p rows are passes =
    let unshown : LineValue → RowValue = λ line. unshown_row every.written line in
    record {
      right = λ i d below.
          let row = get_or rows i d in
          let among = subst (λ (l : List RowValue). Contains l row) are (Contains-get_or rows i d below) in
          let (line, there, is) = of_mapped unshown row every.lines among in
          let (k, at) = in_at every.lines line there in
          subst (IsRight every p) is (k, line, at, refl, inr passes);
      whole = λ action text unnamed meant resource (k, line, first, how).
          let among = mapped unshown line every.lines (at_in every.lines k line first.at) in
          (unshown line, subst (λ (l : List RowValue). Contains l (unshown line)) (sym are) among, inr (passes, (refl, (k, line, first, refl))));
      made = inl (passes, are);
    }
