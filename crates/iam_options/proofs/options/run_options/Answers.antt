use Rattle.iam_options.proofs.Reading.{number_read, same_word}
use Rattle.iam_options.proofs.options.run_options.Goals as goal

pub returns : goal.returns
returns c = record {
  has_workers = (
    c.get_one.result,
    number_read 32 _ _ c.get_one.ensures.none c.get_one.ensures.value,
    c.unwrap_or.ensures,
  );
  has_tile = number_read 64 _ _ c.get_one-2.ensures.none c.get_one-2.ensures.value;
  is_json = same_word _ c.get_str.result _ c.eq.result c.get_str.ensures c.eq.ensures;
  is_brief = record { absent = c.get_flag.ensures.none; on = c.get_flag.ensures.value; off = c.get_flag.ensures.other };
}
