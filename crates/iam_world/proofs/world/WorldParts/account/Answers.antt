use Rattle.std.proofs.Common.{◌∙◌, ap, sym}
use Rattle.std.specs.List.{slice_get}
use Rattle.std.specs.Option.{option_and_then, option_copied}
use Rattle.std.specs.Str.{bytes_eq}
use Rattle.iam_shape.specs.Few.{HasFewLevels}
use Rattle.iam_world.specs.World.{AccountValue, account_with}
use Rattle.iam_world.proofs.Numbers.{first_account, lent_at}
use Rattle.iam_world.proofs.Worlds.{found_holds}
use Rattle.iam_world.proofs.world.WorldParts.account.Goals as goal

pub returns-in-Some-clause-value : goal.returns-in-Some-clause-value
returns-in-Some-clause-value c =
    let accounts = c.self.inside.accounts.items in
    let id = c.args.id.now in
    lent_at accounts c.in-Some.number.now c.get-in-Some.result (rw c.as_slice.ensures.value at c.get-in-Some.ensures.lookup)
    ∙ ap (option_and_then (slice_get accounts)) (ap option_copied (sym c.in-Some.is) ∙ c.get.ensures.value ∙ c.self.invariant.numbered id)
    ∙ sym (first_account id accounts)
    ∙ ap (account_with id) c.self.view_is

pub returns-in-None-clause-value : goal.returns-in-None-clause-value
returns-in-None-clause-value c =
    let accounts = c.self.inside.accounts.items in
    let id = c.args.id.now in
    ap (option_and_then (slice_get accounts)) (ap option_copied (sym c.in-None.is) ∙ c.get.ensures.value ∙ c.self.invariant.numbered id)
    ∙ sym (first_account id accounts)
    ∙ ap (account_with id) c.self.view_is

pub returns-in-Some-clause-few : goal.returns-in-Some-clause-few
returns-in-Some-clause-few c =
    found_holds (λ (account : AccountValue). HasFewLevels account.org) (λ account. account.now) (λ account. bytes_eq account.id c.args.id.now) c.self.inside.accounts.items
    c.get-in-Some.result (returns-in-Some-clause-value c ∙ sym (ap (account_with c.args.id.now) c.self.view_is)) c.self.invariant.orgs
