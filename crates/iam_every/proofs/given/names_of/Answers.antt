use Rattle.std.proofs.Common.{◌≡◌, ◌∷◌, [], ◌++◌, List, ℕ, Bor, map, take, sym, ap, subst, ◌∙◌}
use Rattle.std.proofs.lemmas.List.{map-append}
use Rattle.std.proofs.lemmas.List.Elements.{All-push}
use Rattle.std.specs.List.{All}
use Rattle.std.specs.Str.{IsUtf8}
use Rattle.iam_world.specs.World.{ResourceValue}
use Rattle.iam_every.proofs.LineLemmas.{next_more}
use Rattle.iam_every.proofs.given.names_of.Goals as goal

pub loop-r-preserved : goal.loop-r-preserved
loop-r-preserved c =
    let resources = c.args.world.now.resources in
    let r = c.loop-r.r in
    let now : Bor (List ℕ) → List ℕ = λ name. name.now in
    let arn : ResourceValue → List ℕ = λ resource. resource.arn in
    let names = c.loop-r.names.items in
    let text = c.resource_text.result in
    let (resource, at, is) = c.resource_text.ensures in
    let pushed : map now c.push.new.self.items ≡ map now names ++ (text.now ∷ []) =
    ap (map now) c.in_ok-push.ensures.items ∙ map-append now names (text ∷ []) in
    record {
      are = pushed ∙ ap (λ (xs : List (List ℕ)). xs ++ (text.now ∷ [])) c.loop-r.invariant.are
          ∙ ap (λ (x : List ℕ). map arn (take r resources) ++ (x ∷ [])) is ∙ next_more arn resources r resource at;
      utf8 = subst (All IsUtf8) (sym pushed) (All-push IsUtf8 (map now names) text.now c.loop-r.invariant.utf8 c.resource_text.utf8);
    }
