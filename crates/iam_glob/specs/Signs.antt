-- The signs of a pattern as they are lent: those of an ASCII text by its bytes, which are its characters. LOGIC 2.1 and 2.2.
use Rattle.std.specs.Prelude.{List, map}
use Rattle.iam_glob.specs.Glob.{plain_sign, wild_sign}
use Rattle.iam_glob.specs.declared.sign.Sign.{Sign}
use Rattle.iam_glob.specs.declared.signs.Lent.{Lent}
use Rattle.iam_glob.specs.declared.signs.Lent.TheVariants.{Wild, Plain, Listed}
use Rattle.iam_glob.specs.declared.signs.Signs.{Signs}

abbrev pub lent_signs : Lent → List Sign
lent_signs (Wild text) = map wild_sign text.now
lent_signs (Plain text) = map plain_sign text.now
lent_signs (Listed signs) = signs.now

abbrev pub signs_in : Signs → List Sign
signs_in signs = lent_signs signs.kind
