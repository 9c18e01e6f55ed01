use Rattle.std.proofs.Common.{◌≡◌, inl, inr, Some, get_or, map, string_bytes, subst, sym}
use Rattle.std.proofs.lemmas.Result.{IfOk-weaker}
use Rattle.std.specs.List.{slice_get}
use Rattle.iam_every.specs.Code.Rows.{IsLined}
use Rattle.iam_every.specs.Every.{LineValue, every_of, line_of}
use Rattle.iam_every.proofs.LineLemmas.{line_read}
use Rattle.iam_every.proofs.MadeLemmas.{all_utf8}
use Rattle.iam_every.proofs.NamesLemmas.{one_some}
use Rattle.iam_open_every.specs.Code.Spots.{AreSpotsOn}
use Rattle.iam_open_every.specs.Lines.{AreLineTexts, AreShownBy, AreTooMany, AsksBeyondOn}
use Rattle.iam_open_every.specs.Spots.{IsLineUnshown}
use Rattle.iam_open_every.specs.Texts.{AreAllTexts}
use Rattle.iam_open_every.proofs.SpotLemmas.{lined_shown, lined_unshown}
use Rattle.iam_open_every.proofs.spots.line_spots.Goals as goal

pub returns-in-Shown-clause-spots : goal.returns-in-Shown-clause-spots
returns-in-Shown-clause-spots c =
    let every = every_of c.args.given.asked in
    let p = c.args.given.p in
    let k = c.args.k in
    let lines = c.args.given.asked.lines.now in
    let line = line_of (get_or lines k c.index-given-k.result) in
    let texts : AreAllTexts every p k (map string_bytes c.in-Shown.texts.items) = (subst (AreLineTexts every p k) c.in-Shown.is c.in_ok-texts.ensures.texts).0 in
    IfOk-weaker c.texts_spots.result _ _
    (λ spots is. subst (AreSpotsOn every p (IsLined every k)) (sym is)
    (lined_shown every p k line (map string_bytes c.in-Shown.texts.items) (line_read lines k c.index-given-k.result c.requires.line)
    (all_utf8 c.in-Shown.texts.items) texts))
    c.texts_spots.ensures

pub returns-in-Shown-clause-made : goal.returns-in-Shown-clause-made
returns-in-Shown-clause-made c =
    let every = every_of c.args.given.asked in
    let p = c.args.given.p in
    let k = c.args.k in
    let lines = c.args.given.asked.lines.now in
    let line = line_of (get_or lines k c.index-given-k.result) in
    let at : slice_get every.lines k ≡ Some line = line_read lines k c.index-given-k.result c.requires.line in
    let texts = map string_bytes c.in-Shown.texts.items in
    let (its, there, shown) = (subst (AreLineTexts every p k) c.in-Shown.is c.in_ok-texts.ensures.texts).1 in
    let by : AreShownBy every p k line texts =
    subst (λ (x : LineValue). AreShownBy every p k x texts) (one_some (slice_get every.lines k) its line there at) shown in
    IfOk-weaker c.texts_spots.result _ _ (λ spots is. (line, at, inr (texts, by, is))) c.texts_spots.ensures

pub returns-in-TooMany : goal.returns-in-TooMany
returns-in-TooMany c =
    let every = every_of c.args.given.asked in
    let p = c.args.given.p in
    let k = c.args.k in
    let lines = c.args.given.asked.lines.now in
    let line = line_of (get_or lines k c.index-given-k.result) in
    let at : slice_get every.lines k ≡ Some line = line_read lines k c.index-given-k.result c.requires.line in
    let how : IsLineUnshown every p k line = elim c.in-TooMany.is [
      | inl is ↦
          let (its, there, many) = subst (AreLineTexts every p k) is c.in_ok-texts.ensures.texts in
          inl (subst (AreTooMany every p k) (one_some (slice_get every.lines k) its line there at) many)
      | inr is ↦
          let (its, there, beyond) = subst (AreLineTexts every p k) is c.in_ok-texts.ensures.texts in
          inr (subst (AsksBeyondOn every p) (one_some (slice_get every.lines k) its line there at) beyond)
    ] in record {
      walks = c.in_ok-texts.ensures.walks;
      spots = IfOk-weaker c.unshown_spots.result _ _
          (λ spots is. subst (AreSpotsOn every p (IsLined every k)) (sym is) (lined_unshown every p k line at how)) c.unshown_spots.ensures;
      made = IfOk-weaker c.unshown_spots.result _ _ (λ spots is. (line, at, inl (how, is))) c.unshown_spots.ensures;
    }
