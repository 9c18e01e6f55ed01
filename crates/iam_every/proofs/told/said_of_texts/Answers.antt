use Rattle.std.proofs.Common.{◌≡◌, All, inl, inr, refl, ◌+◌, ◌∷◌, [], ◌++◌, List, String, ℕ, arith, map, take, sym, ap, subst, ◌∙◌, string_bytes}
use Rattle.std.proofs.lemmas.List.{append-nil, map-append, map_more, take_all}
use Rattle.std.specs.Global.{Global, Vec}
use Rattle.std.specs.List.{slice_get}
use Rattle.iam_every.specs.Code.Told.{IsLived, row_as}
use Rattle.iam_every.specs.Every.{IsFirst, LineValue, RowValue, every_of}
use Rattle.iam_every.specs.Made.{AreJoined, AreOfText, IsRowOf}
use Rattle.iam_every.specs.declared.told.Lived.{Lived}
use Rattle.iam_every.proofs.MadeLemmas.{joined_more}
use Rattle.iam_every.proofs.NamesLemmas.{one_some}
use Rattle.iam_every.proofs.told.said_of_texts.Goals as goal
use Rattle.iam_every.proofs.told.said_of_texts.Goals.{then-is_first_line+in_ok-said_on+in_ok-push, else-is_first_line}

pub loop-text-preserved : goal.loop-text-preserved
loop-text-preserved c =
    let given = c.args.given in
    let every = every_of given.asked in
    let world = every.world in
    let p = given.p in
    let k = c.args.k in
    let scene = c.args.scene in
    let texts = c.args.texts.now in
    let i = c.loop-text.text-index in
    let text = c.as_str-text.result.now in
    let before = map string_bytes (take i texts) in
    let more : before ++ (text ∷ []) ≡ map string_bytes (take (i + 1) texts) =
    ap (λ (x : List ℕ). before ++ (x ∷ [])) c.as_str-text.ensures.value
    ∙ ap (λ (x : String Global). before ++ (string_bytes x ∷ [])) c.text-item.is ∙ sym (map_more string_bytes texts i c.text-item.result c.loop-text-test.true) in
    elim c.if-is_first_line.branch [
      | then-is_first_line+in_ok-said_on+in_ok-push w ↦
          record {
            lived = subst (λ (v : Vec Lived). All (IsLived scene) v.items) (sym w.lived-is) w.in_ok-said_on.ensures.lived;
            said = λ action line at is act.
                let rows = map (row_as action) c.loop-text.said.items in
                let said = w.in_ok-said_on.field-0 in
                let row : RowValue = row_as action said in
                let of : IsRowOf world p line.unnamed action text row = w.in_ok-said_on.ensures.said world p line.unnamed action is act in
                let (other, first) = c.is_first_line.ensures.0 w.if-is_first_line.true in
                let its : other ≡ line = one_some (slice_get every.lines k) other line first.at at in
                let pushed : map (row_as action) c.if-is_first_line.said.items ≡ rows ++ (row ∷ []) =
                ap (λ (v : Vec _). map (row_as action) v.items) w.said-is ∙ ap (map (row_as action)) w.in_ok-push.ensures.items
                ∙ map-append (row_as action) c.loop-text.said.items _ in
                let Made = AreOfText every p action k line in
                subst (λ (xs : List (List ℕ)). AreJoined Made xs (map (row_as action) c.if-is_first_line.said.items)) more
                (subst (AreJoined Made (before ++ (text ∷ []))) (sym pushed)
                (joined_more Made before text rows (row ∷ []) (c.loop-text.invariant.said action line at is act) (inl (
                  subst (λ (x : LineValue). IsFirst every.lines text k x) its first,
                  (row, of, refl),
                ))));
          }
      | else-is_first_line w ↦
          record {
            lived = subst (λ (v : Vec Lived). All (IsLived scene) v.items) (sym w.lived-is) c.loop-text.invariant.lived;
            said = λ action line at is act.
                let rows = map (row_as action) c.loop-text.said.items in
                let Made = AreOfText every p action k line in
                let never : ¬ IsFirst every.lines text k line =
                λ it. let yes = c.is_first_line.ensures.1 (line, it) in let no = w.if-is_first_line.false in let wrong : ⊥ = cc in wrong in
                subst (λ (xs : List (List ℕ)). AreJoined Made xs (map (row_as action) c.if-is_first_line.said.items)) more
                (subst (AreJoined Made (before ++ (text ∷ []))) (append-nil rows ∙ ap (λ (v : Vec _). map (row_as action) v.items) (sym w.said-is))
                (joined_more Made before text rows [] (c.loop-text.invariant.said action line at is act) (inr (never, refl))));
          }
    ]

pub returns-clause-said : goal.returns-clause-said
returns-clause-said c action line at is act =
    let texts = c.args.texts.now in
    let every = every_of c.args.given.asked in
    subst (λ (xs : List (String Global)). AreJoined (AreOfText every c.args.given.p action c.args.k line) (map string_bytes xs)
    (map (row_as action) c.loop-text.said.items))
    (take_all c.loop-text.text-index texts (omega (arith, c.loop-text-test.false))) (c.loop-text.invariant.said action line at is act)
