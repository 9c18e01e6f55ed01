use Rattle.std.proofs.Common.{◌≡◌, ◌∙◌, List, length, map, not, ap, sym, rules}
use Rattle.std.proofs.lemmas.List.{length-map}
use Rattle.std.specs.Option.{is_some}
use Rattle.std.specs.Str.{bytes_eq}
use Rattle.iam_decision.specs.Applicable.{has_policies}
use Rattle.iam_policy.specs.Reading.{PolicyValue}
use Rattle.iam_world.specs.World.{account_with}
use Rattle.iam_layers.specs.Applicable.{levels_unless, manages}
use Rattle.iam_layers.proofs.VerdictLemmas.{framed}
use Rattle.iam_layers.proofs.world.World.frame_with.Goals as goal

pub returns : goal.returns
returns c = λ applicable at.
    let world = c.args.self.now in
    let principal = c.principal-principal.result.now in
    let resource = c.resource-resource.result.now in
    let levels = c.control_of.result.now in
    let bound : List (List PolicyValue) = levels_unless (manages (account_with resource.account world)) resource.control in
    let are : map (λ level. level.items) levels ≡ bound = search rules in
    let control : length levels ≡ length bound =
    sym (length-map levels (λ level. level.items)) ∙ ap (λ (all : List (List PolicyValue)). length all) are in
    let boundary : c.is_some.result ≡ is_some principal.boundary = search rules in
    let session : not c.is_empty.result ≡ has_policies principal.session = search rules in
    let same : c.eq-same_account.result ≡ bytes_eq principal.requester.account resource.account = search rules in
    rw (control, boundary, session, same, c.is_sealed-sealed.ensures)
    (framed world c.args.p c.args.r c.args.levels principal resource applicable c.principal-principal.ensures.is c.resource-resource.ensures.is
    c.requires.levels at)
