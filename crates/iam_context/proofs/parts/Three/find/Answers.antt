use Rattle.std.proofs.Common.{◌∙◌, ap, sym}
use Rattle.std.specs.Option.{option_or}
use Rattle.iam_context.specs.Code.Values.{first_values}
use Rattle.iam_context.proofs.Finding.{four_first}
use Rattle.iam_context.proofs.parts.Three.find.Goals as goal

pub returns-in-Some : goal.returns-in-Some
returns-in-Some c =
    let a = c.args.self.now.first in
    let b = c.args.self.now.second in
    let d = c.args.self.now.third in
    let e = c.args.self.now.derived.now.items in
    let key = c.args.key.now in
    sym (four_first a b d e key ∙ ap (λ o. option_or o (option_or (first_values b key) (option_or (first_values d key) (first_values e key)))) (sym c.in-Some.ensures))

pub returns-in-Some-find : goal.returns-in-Some-find
returns-in-Some-find c =
    let a = c.args.self.now.first in
    let b = c.args.self.now.second in
    let d = c.args.self.now.third in
    let e = c.args.self.now.derived.now.items in
    let key = c.args.key.now in
    sym (
    four_first a b d e key
    ∙ ap (λ o. option_or o (option_or (first_values b key) (option_or (first_values d key) (first_values e key)))) (sym c.in_default.ensures)
    ∙ ap (λ o. option_or o (option_or (first_values d key) (first_values e key))) (sym c.in-Some-find.ensures)
    )

pub returns-in-Some-find-2 : goal.returns-in-Some-find-2
returns-in-Some-find-2 c =
    let a = c.args.self.now.first in
    let b = c.args.self.now.second in
    let d = c.args.self.now.third in
    let e = c.args.self.now.derived.now.items in
    let key = c.args.key.now in
    sym (
    four_first a b d e key
    ∙ ap (λ o. option_or o (option_or (first_values b key) (option_or (first_values d key) (first_values e key)))) (sym c.in_default.ensures)
    ∙ ap (λ o. option_or o (option_or (first_values d key) (first_values e key))) (sym c.in_default-find.ensures)
    ∙ ap (λ o. option_or o (first_values e key)) (sym c.in-Some-find-2.ensures)
    )

pub returns : goal.returns
returns c =
    let a = c.args.self.now.first in
    let b = c.args.self.now.second in
    let d = c.args.self.now.third in
    let e = c.args.self.now.derived.now.items in
    let key = c.args.key.now in
    c.find_in_part.ensures
    ∙ sym (
    four_first a b d e key
    ∙ ap (λ o. option_or o (option_or (first_values b key) (option_or (first_values d key) (first_values e key)))) (sym c.in_default.ensures)
    ∙ ap (λ o. option_or o (option_or (first_values d key) (first_values e key))) (sym c.in_default-find.ensures)
    ∙ ap (λ o. option_or o (first_values e key)) (sym c.in_default-find-2.ensures)
    )
