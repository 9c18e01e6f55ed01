-- What a line says, as it is lent from its JSON value.
use Rattle.std.specs.Prelude.{option_map}
use Rattle.serde_json.specs.View.{view}
use Rattle.iam_world_context.specs.Part.{part_of}
use Rattle.iam_asked.specs.Said.{SaidValue}
use Rattle.iam_asked.specs.declared.said.Said.{Said}

abbrev pub said_of : Said → SaidValue
said_of said = record {
  principal = said.principal.now;
  action = said.action.now;
  resource = said.resource.now;
  own = part_of (option_map (λ v. view v.now) said.context);
}
