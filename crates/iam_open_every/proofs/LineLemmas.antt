-- What is shown of the texts of a line, by what is seen in its scene.
use Rattle.std.proofs.Common.{◌≡◌, ℕ, List, length, refl, subst, sym}
use Rattle.std.specs.Borrow.{Bor}
use Rattle.iam_glob.specs.declared.sign.Sign.{Sign}
use Rattle.iam_every.specs.Every.{EveryValue, LineValue}
use Rattle.iam_layers.specs.Unnamed.{world_and}
use Rattle.iam_layers.specs.declared.unnamed.Unnamed.{Unnamed}
use Rattle.iam_open.specs.Seat.{IsSeat}
use Rattle.iam_open.specs.declared.scene.Target.{Target}
use Rattle.iam_open.specs.declared.scene.Target.TheVariants as target
use Rattle.iam_open_every.specs.Lines.{OnLine}
use Rattle.iam_open_every.specs.Looked.{AreOpenGroupsAt}
use Rattle.iam_world.specs.World.{WorldValue}

-- what holds of its scene holds on the line
pub on_line : (P : WorldValue → ℕ → ℕ → Type 0) (every : EveryValue) (p : ℕ) (line : LineValue) (world : WorldValue) (q : ℕ) (t : Target)
    (text : Bor (List ℕ)) → world ≡ every.world → q ≡ p → t ≡ target.Unnamed line.unnamed text
    → ((other : WorldValue) (r : ℕ) → IsSeat world t other r → P other q r) → OnLine P every p line
on_line P every p line world q t text world_is who is holds = (
  text.now,
  λ action resource said.
      let w = world_and every.world action resource in
      let n = length every.world.resources in
      let seat : IsSeat world t w n = subst (λ (x : WorldValue). IsSeat x t w n) (sym world_is)
      (subst (λ (x : Target). IsSeat every.world x w n) (sym is) (action, resource, said, refl, refl)) in
      subst (λ m. P w m n) who (holds w n seat),
)

-- groups that tell texts apart in its scene tell those of the line apart
pub tell_by : (every : EveryValue) (p : ℕ) (line : LineValue) (world : WorldValue) (q : ℕ) (t : Target) (text : Bor (List ℕ))
    (groups : List (List (List Sign))) → world ≡ every.world → q ≡ p → t ≡ target.Unnamed line.unnamed text
    → ((unnamed : Unnamed) (its : Bor (List ℕ)) → t ≡ target.Unnamed unnamed its → AreOpenGroupsAt world q unnamed groups)
    → AreOpenGroupsAt every.world p line.unnamed groups
tell_by every p line world q t text groups world_is who is tell =
    subst (λ (x : WorldValue). AreOpenGroupsAt x p line.unnamed groups) world_is
    (subst (λ n. AreOpenGroupsAt world n line.unnamed groups) who (tell line.unnamed text is))
