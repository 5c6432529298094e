use Rattle.std.proofs.Common.{append_assoc}
use Rattle.plan_list.proofs.page.Page.put_line.Goals as goal

pub returns : goal.returns
returns g c =
    rw (
      ← c.submission.view_is,
      c.put-7.ensures,
      c.put_due.ensures.text,
      c.put-6.ensures,
      c.put_number-2.ensures.text,
      c.put-5.ensures,
      c.put-4.ensures,
      c.as_bytes-2.ensures.value,
      c.kind_word.ensures,
      c.put-3.ensures,
      c.put-2.ensures,
      c.as_bytes.ensures.value,
      c.as_str.ensures.text,
      c.put.ensures,
      c.put_number.ensures.text,
      c.from.ensures,
    )
    (simp append_assoc)
