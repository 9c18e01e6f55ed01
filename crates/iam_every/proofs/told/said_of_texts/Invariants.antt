use Rattle.std.proofs.Common.{◌≡◌, All, ℕ, List, Some, map, string_bytes, take}
use Rattle.std.specs.List.{slice_get}
use Rattle.iam_every.specs.Code.Picked.{ActsOn, TellEach}
use Rattle.iam_every.specs.Code.Told.{IsLived, IsScene, eligible_in, row_as}
use Rattle.iam_every.specs.Every.{LineValue, every_of}
use Rattle.iam_every.specs.Made.{AreJoined, AreOfText}
use Rattle.iam_every.proofs.told.said_of_texts.Given as goal

abbrev pub invariant-loop-text : goal.invariant-loop-text
invariant-loop-text l = record {
  lived : All (IsLived l.scene) l.lived.items;
  said : (action : List ℕ) (line : LineValue) → slice_get (every_of l.given.asked).lines l.k ≡ Some line
      → IsScene l.given.asked.world.now l.given.p line.unnamed l.scene → TellEach (ActsOn action) (eligible_in l.scene) l.acts
      → AreJoined (AreOfText (every_of l.given.asked) l.given.p action l.k line) (map string_bytes (take l.text-index l.texts))
      (map (row_as action) l.said.items);
}
