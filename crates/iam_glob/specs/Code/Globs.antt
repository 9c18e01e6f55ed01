-- The signs of a pattern, by how the code keeps them.
use Rattle.std.specs.Prelude.{List, map}
use Rattle.iam_glob.specs.Glob.{sign_of}
use Rattle.iam_glob.specs.declared.glob.Kind.{Kind}
use Rattle.iam_glob.specs.declared.glob.Kind.TheVariants.{Short, Long, Listed}
use Rattle.iam_glob.specs.declared.sign.Sign.{Sign}

abbrev pub kept_signs : Kind → List Sign
kept_signs (Short wild text) = map (sign_of wild) text
kept_signs (Long wild text) = map (sign_of wild) text.items
kept_signs (Listed signs) = signs.items
