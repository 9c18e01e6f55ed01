use Rattle.std.proofs.Common.{◌++◌, ◌∙◌, inl, inr, List, MatchOption, Option, ap, map, string_bytes, refl, subst, sym}
use Rattle.std.specs.Arc.{arc_value}
use Rattle.iam_every.specs.Code.Rows.{AreRowsOn, IsStar}
use Rattle.iam_every.specs.Code.Told.{HasNoStar, IsToldOfStar}
use Rattle.iam_every.specs.Every.{every_of, row_of}
use Rattle.iam_every.specs.Made.{AreOfStar}
use Rattle.iam_every.specs.declared.rows.Row.{Row}
use Rattle.iam_every.specs.declared.told.About.TheVariants.{Star}
use Rattle.iam_every.specs.declared.told.Told.{Told}
use Rattle.iam_every.proofs.MadeLemmas.{star_made, star_none}
use Rattle.iam_every.proofs.RowLemmas.{star_named, star_row, star_unlined}
use Rattle.iam_every.proofs.rows.star_rows.Goals as goal

pub returns-in_ok-add_rows-in-Some-clause-rows : goal.returns-in_ok-add_rows-in-Some-clause-rows
returns-in_ok-add_rows-in-Some-clause-rows c =
    let every = every_of c.args.given.asked in
    let p = c.args.given.p in
    let action = string_bytes (arc_value c.args.action.now) in
    let (actions, listed, star) = c.requires.told in
    let (k, (never, (line, first)), told) = subst (λ (o : Option Told). MatchOption o (HasNoStar every) (IsToldOfStar every p actions)) c.in-Some.is star in
    let (more, (row, of, alone), added) = c.in_ok-add_rows-in-Some.ensures every p (Star k) actions told listed in
    let now = added ∙ ap (λ (l : List Row). map row_of l ++ more) c.new-rows.ensures.items ∙ alone in
    subst (AreRowsOn every p action (IsStar every)) (sym now)
    (star_row every p action k line line.unnamed row never first refl (of line first.at))

pub returns-in_ok-add_rows-in-Some-clause-made : goal.returns-in_ok-add_rows-in-Some-clause-made
returns-in_ok-add_rows-in-Some-clause-made c =
    let every = every_of c.args.given.asked in
    let p = c.args.given.p in
    let action = string_bytes (arc_value c.args.action.now) in
    let (actions, listed, star) = c.requires.told in
    let (k, (never, (line, first)), told) = subst (λ (o : Option Told). MatchOption o (HasNoStar every) (IsToldOfStar every p actions)) c.in-Some.is star in
    let (more, (row, of, alone), added) = c.in_ok-add_rows-in-Some.ensures every p (Star k) actions told listed in
    let now = added ∙ ap (λ (l : List Row). map row_of l ++ more) c.new-rows.ensures.items ∙ alone in
    subst (AreOfStar every p action) (sym now) (star_made every p action k line line.unnamed row never first refl (of line first.at))

pub returns-in-None-clause-rows : goal.returns-in-None-clause-rows
returns-in-None-clause-rows c =
    let every = every_of c.args.given.asked in
    let p = c.args.given.p in
    let action = string_bytes (arc_value c.args.action.now) in
    let (actions, listed, star) = c.requires.told in
    let none = subst (λ (o : Option Told). MatchOption o (HasNoStar every) (IsToldOfStar every p actions)) c.in-None.is star in
    subst (λ (l : List Row). AreRowsOn every p action (IsStar every) (map row_of l)) (sym c.new-rows.ensures.items)
    (elim none [ inl named ↦ star_named every p action named | inr unlined ↦ star_unlined every p action unlined ])

pub returns-in-None-clause-made : goal.returns-in-None-clause-made
returns-in-None-clause-made c =
    let every = every_of c.args.given.asked in
    let p = c.args.given.p in
    let action = string_bytes (arc_value c.args.action.now) in
    let (actions, listed, star) = c.requires.told in
    let none = subst (λ (o : Option Told). MatchOption o (HasNoStar every) (IsToldOfStar every p actions)) c.in-None.is star in
    star_none every p action (map row_of c.new-rows.result.items) (ap (map row_of) c.new-rows.ensures.items) none
