use Rattle.std.proofs.Common.{◌≡◌, ◌++◌, map, string_bytes}
use Rattle.iam_open_every.specs.Spots.{spot_of, text_spot}
use Rattle.iam_open_every.proofs.spots.texts_spots.Given as goal

abbrev pub invariant-loop-text : goal.invariant-loop-text
invariant-loop-text l = record {
  parts : l.yielded ++ l.text-iterator.rest.items ≡ l.fn.texts.items;
  spots : map spot_of l.spots.items ≡ map (text_spot l.unnamed) (map string_bytes l.yielded);
}
