-- Rows for actions and texts answer for all requests.
use Rattle.std.proofs.Common.{◌≡◌, ◌<◌, ◌⊎◌, [], inl, inr, List, ℕ, Bool, Contains, IsSome, MatchOption, None, Option, Some, get_or, length, map, refl, sym, ap, subst, ◌∙◌}
use Rattle.std.proofs.lemmas.List.Elements.{All-contains, Contains-get_or}
use Rattle.std.proofs.lemmas.Option.{slice_get_within}
use Rattle.std.specs.Borrow.{Bor}
use Rattle.std.specs.List.{slice_get}
use Rattle.iam_context.specs.Context.{ContextValue}
use Rattle.iam_decision.specs.Applicable.{ApplicableValue}
use Rattle.iam_decision.specs.declared.verdict.Decision.{Decision}
use Rattle.iam_every.specs.Alike.{AreAlikeActions}
use Rattle.iam_every.specs.Every.{ActionsPass, AreThere, EveryValue, IsMeantAction, IsNamed, LineValue, Says}
use Rattle.iam_every.proofs.ListLemmas.{mapped, of_mapped}
use Rattle.iam_every.proofs.LineLemmas.{at_in, in_at}
use Rattle.iam_every.proofs.MeantLemmas.{some_said}
use Rattle.iam_every.proofs.NamesLemmas.{last, one_some}
use Rattle.iam_layers.specs.Applicable.{applicable_of}
use Rattle.iam_layers.specs.Cell.{IsAction}
use Rattle.iam_layers.specs.Unnamed.{AreUnnamedPolicies, IsSaid, IsThere, bare_resource, world_and}
use Rattle.iam_layers.specs.declared.unnamed.Unnamed.{Unnamed}
use Rattle.iam_layers.specs.declared.unnamed.Unnamed.TheVariants.{Like, Of}
use Rattle.iam_open_every.specs.Actions.{AlikeActionsAreTurnedAlike, AreActionsTurnedAlike, AreAlikeFor, AreAllActions}
use Rattle.iam_open_every.specs.Made.{AreJoined, AreLookedAt, AreOfAction, IsRowOn, unshown_row}
use Rattle.iam_open_every.specs.Row.{RowValue}
use Rattle.iam_open_every.specs.Rows.{Answers, AreRows, HasSaid, IsRight, IsToldUnshown, IsUnshown}
use Rattle.iam_open_every.specs.Said.{AreSaid, AreSaidOf}
use Rattle.iam_open_every.specs.Spots.{AreSpots, IsOfLine, IsSpot, IsTextSpot, IsUnshownSpot, SpotValue, StandsFor}
use Rattle.iam_open_every.specs.Texts.{AreTextsTurnedAlike}
use Rattle.iam_open_every.specs.Turned.{IsUnnamedDecisionIn}
use Rattle.iam_open_every.specs.declared.said.Said.{Said}
use Rattle.iam_open_every.proofs.MadeLemmas.{among_joined, beside, of_beside, of_joined}
use Rattle.iam_open.specs.Seat.{IsSeat}
use Rattle.iam_open.specs.declared.scene.Target.{Target}
use Rattle.iam_open.specs.declared.scene.Target.TheVariants as target
use Rattle.iam_row.proofs.Rows.{found}
use Rattle.iam_world.specs.World.{ResourceValue, WorldValue}

-- ---- actions
-- the policies that apply to such a resource
policies_there : (world : WorldValue) (p : ℕ) (unnamed : Unnamed) → p < length world.principals → IsThere world unnamed
    → (a : ApplicableValue) × AreUnnamedPolicies world p unnamed a
policies_there world p (Like r) inside there =
    let (principal, at) = found world.principals p inside in
    let (like, is_like) = found world.resources r there in (
      applicable_of world principal like,
      (
        principal,
        at,
        λ text resource (other, is_other, same).
            ap (λ (x : ResourceValue). applicable_of world principal x) (one_some (slice_get world.resources r) like other is_like is_other)
            ∙ sym (ap (λ (x : ResourceValue). applicable_of world principal x) same),
      ),
    )
policies_there world p (Of account) inside there =
    let (principal, at) = found world.principals p inside in (
      applicable_of world principal (bare_resource account.now []),
      (principal, at, λ text resource same. sym (ap (λ (x : ResourceValue). applicable_of world principal x) same)),
    )

-- whatever is decided on such actions is the same
actions_turned : AlikeActionsAreTurnedAlike → (world : WorldValue) (p : ℕ) (unnamed : Unnamed) (text one other : List ℕ) → p < length world.principals
    → IsThere world unnamed → AreAlikeFor world p unnamed one other
    → AreActionsTurnedAlike world p unnamed text one other × AreActionsTurnedAlike world p unnamed text other one
actions_turned law world p unnamed text one other inside there alike =
    let (a, policies) = policies_there world p unnamed inside there in
    let says = alike a policies in
    let back : AreAlikeActions a other one = λ k d below. let both = says k d below in (both.1, both.0) in
    (law world p unnamed text one other a policies says, law world p unnamed text other one a policies back)

pub says_there : (every : EveryValue) (text : List ℕ) (unnamed : Unnamed) → AreThere every → Says every text unnamed → IsThere every.world unnamed
says_there every text unnamed there (k, line, first, how) = elim how [
  | inl (r, (resource, at, is), like) ↦ subst (IsThere every.world) (sym like) (slice_get_within every.world.resources r resource at)
  | inr (never, same) ↦
      subst (IsThere every.world) (sym same)
      (All-contains (λ (x : LineValue). IsThere every.world x.unnamed) every.lines line there (at_in every.lines k line first.at))
]

-- what is said in the scene of a text is said of the request for it
pub said_at : (brief : Bool) (every : EveryValue) (p : ℕ) (action text : List ℕ) (unnamed : Unnamed) (world : WorldValue) (q : ℕ) (t : Target)
    (its : Bor (List ℕ)) (said : Said) → world ≡ every.world → q ≡ p → t ≡ target.Unnamed unnamed its → its.now ≡ text → IsThere every.world unnamed
    → ((other : WorldValue) (a r : ℕ) → IsSeat world t other r → IsAction other a action → AreSaid brief other q a r said)
    → AreSaidOf brief every.world p unnamed action text said
said_at brief every p action text unnamed world q t its said world_is who is text_is there holds =
    let (resource, told) = some_said every.world unnamed text there in
    let w = world_and every.world action resource in
    let n = length every.world.resources in
    let m = length every.world.actions in
    let told_so : IsSaid every.world unnamed its.now resource = subst (λ (x : List ℕ). IsSaid every.world unnamed x resource) (sym text_is) told in
    let seat : IsSeat world t w n = subst (λ (x : WorldValue). IsSeat x t w n) (sym world_is)
    (subst (λ (x : Target). IsSeat every.world x w n) (sym is) (action, resource, told_so, refl, refl)) in
    (resource, told, subst (λ i. AreSaid brief w i m n said) who (holds w m n seat (last every.world.actions action)))

-- ---- all requests
right_row : (brief : Bool) (every : EveryValue) (p : ℕ) (action : List ℕ) (spot : SpotValue) (row : RowValue) → IsMeantAction every action
    → IsSpot every p spot → IsRowOn brief every p action spot row → IsRight brief every p row
right_row brief every p action spot row meant of on = go spot.unnamed of on.is
  where
    asked : IsMeantAction every row.action
    asked = subst (IsMeantAction every) (sym on.for_action) meant

    go : (o : Option Unnamed) → MatchOption o (IsUnshownSpot every p spot.text) (IsTextSpot every spot.text)
        → MatchOption o (row.said ≡ None) (λ unnamed. (is : Said) × (row.said ≡ Some is) × AreSaidOf brief every.world p unnamed action spot.text is)
        → IsRight brief every p row
    go None (k, line, at, written, how) none =
        let unshown : IsUnshown every p row = (k, line, at, on.for_text ∙ written, inl (asked, how)) in
        subst (λ (o : Option Said). MatchOption o (IsUnshown every p row) (HasSaid brief every p row)) (sym none) unshown
    go (Some unnamed) text (said, some, is) =
        let has : HasSaid brief every p row said = record {
          action = asked;
          unnamed = unnamed;
          text = subst (λ (t : List ℕ). IsTextSpot every t unnamed) (sym on.for_text) text;
          is = subst (λ (a : List ℕ). AreSaidOf brief every.world p unnamed a row.resource said) (sym on.for_action)
              (subst (λ (t : List ℕ). AreSaidOf brief every.world p unnamed action t said) (sym on.for_text) is);
        } in
        subst (λ (o : Option Said). MatchOption o (IsUnshown every p row) (HasSaid brief every p row)) (sym some) has

-- what is decided on the text that is looked at is decided on the other, whatever the action
texts_turned : (world : WorldValue) (p : ℕ) (unnamed : Unnamed) (one other : List ℕ) → (one ≡ other) ⊎ AreTextsTurnedAlike world p unnamed one other
    → AreTextsTurnedAlike world p unnamed one other
texts_turned world p unnamed one other (inl same) = λ action. (
  λ own moment decision is. subst (λ (t : List ℕ). IsUnnamedDecisionIn world p unnamed action t own moment decision) same is,
  λ own moment decision is. subst (λ (t : List ℕ). IsUnnamedDecisionIn world p unnamed action t own moment decision) (sym same) is,
)
texts_turned world p unnamed one other (inr alike) = alike

answering : AlikeActionsAreTurnedAlike → (brief : Bool) (every : EveryValue) (p : ℕ) (action text shown : List ℕ) (unnamed : Unnamed) (spot : SpotValue)
    (row : RowValue) → p < length every.world.principals → IsThere every.world unnamed → AreAlikeFor every.world p unnamed shown action
    → StandsFor every p text unnamed spot → IsRowOn brief every p shown spot row
    → Answers every p action text unnamed row ⊎ IsToldUnshown every p text row
answering law brief every p action text shown unnamed spot row inside there alike stands on = go spot.unnamed stands on.is
  where
    go : (o : Option Unnamed) → MatchOption o ((¬ IsNamed every.world text) × IsOfLine every text spot.text)
        (λ said. (said ≡ unnamed) × ((spot.text ≡ text) ⊎ AreTextsTurnedAlike every.world p unnamed spot.text text))
        → MatchOption o (row.said ≡ None) (λ u. (is : Said) × (row.said ≡ Some is) × AreSaidOf brief every.world p u shown spot.text is)
        → Answers every p action text unnamed row ⊎ IsToldUnshown every p text row
    go None (never, (k, line, first, written)) none = inr (none, (k, line, first, on.for_text ∙ written), inl never)
    go (Some its) (same, how) (said, some, is) =
        let texts = texts_turned every.world p unnamed spot.text text how in
        let actions = actions_turned law every.world p unnamed text shown action inside there alike in
        let In : List ℕ → List ℕ → ContextValue → ℕ → Decision → Type 0 = λ a t own moment decision. IsUnnamedDecisionIn every.world p unnamed a t own moment decision in
        inl (record {
          some = subst IsSome (sym some) refl;
          there = λ own moment decision decided.
              let here = subst (λ (a : List ℕ). In a spot.text own moment decision) on.for_action
              (subst (λ (t : List ℕ). In row.action t own moment decision) on.for_text decided) in
              actions.0 own moment decision ((texts shown).0 own moment decision here);
          back = λ own moment decision decided.
              let here = (texts shown).1 own moment decision (actions.1 own moment decision decided) in
              subst (λ (a : List ℕ). In a row.resource own moment decision) (sym on.for_action)
              (subst (λ (t : List ℕ). In shown t own moment decision) (sym on.for_text) here);
        })

pub all_rows : AlikeActionsAreTurnedAlike → (brief : Bool) (every : EveryValue) (p : ℕ) (actions : List (List ℕ)) (spots : List SpotValue)
    (rows : List RowValue) → p < length every.world.principals → AreThere every → AreAllActions every p actions → AreSpots every p spots
    → AreLookedAt every p spots → AreJoined (AreOfAction brief every p spots) actions rows → AreRows brief every p rows
all_rows law brief every p actions spots rows inside there are_actions are_spots looked_at joined = record {
  right = λ i d below.
      let row = get_or rows i d in
      let (action, in', (one, zip, among)) = of_joined (AreOfAction brief every p spots) actions rows row joined (Contains-get_or rows i d below) in
      let (spot, at, on) = of_beside (IsRowOn brief every p action) spots one row zip among in
      right_row brief every p action spot row (All-contains (IsMeantAction every) actions action are_actions.meant in')
      (All-contains (IsSpot every p) spots spot are_spots.right at) on;
  whole = λ action text unnamed meant resource says.
      let (shown, in', alike) = are_actions.whole action meant in
      let (spot, at, stands) = are_spots.whole text unnamed resource says in
      let (one, zip, each) = among_joined (AreOfAction brief every p spots) actions rows shown joined in' in
      let (row, among, on) = beside (IsRowOn brief every p shown) spots one spot zip at in (
        row,
        each row among,
        answering law brief every p action text shown unnamed spot row inside (says_there every text unnamed there says) (alike text unnamed says) stands on,
      );
  made = inr (actions, are_actions.asked, (spots, looked_at, joined));
}

-- where the actions are too many no line is shown
pub unshown_all : (brief : Bool) (every : EveryValue) (p : ℕ) (rows : List RowValue) → rows ≡ map (unshown_row every.written) every.lines
    → ActionsPass every p → AreRows brief every p rows
unshown_all brief every p rows are passes =
    let unshown : LineValue → RowValue = λ line. unshown_row every.written line in
    record {
      right = λ i d below.
          let row = get_or rows i d in
          let among = subst (λ (l : List RowValue). Contains l row) are (Contains-get_or rows i d below) in
          let (line, there, is) = of_mapped unshown row every.lines among in
          let (k, at) = in_at every.lines line there in
          subst (IsRight brief every p) is (k, line, at, refl, inr passes);
      whole = λ action text unnamed meant resource (k, line, first, how).
          let among = mapped unshown line every.lines (at_in every.lines k line first.at) in (
            unshown line,
            subst (λ (l : List RowValue). Contains l (unshown line)) (sym are) among,
            inr (refl, (k, line, first, refl), inr passes),
          );
      made = inl (passes, are);
    }
