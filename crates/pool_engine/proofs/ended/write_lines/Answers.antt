use Rattle.pool_engine.proofs.Texts.{counts_then, text_written}
use Rattle.pool_engine.proofs.ended.write_lines.Goals as goal

pub returns-then-give_many-clause-text : goal.returns-then-give_many-clause-text
returns-then-give_many-clause-text g c =
    text_written c.write_text.result _ _ _ _ _ _ _ c.requires c.if-give_many.ensures.text c.bytes.ensures c.write_text.ensures.bytes

pub returns-then-give_many-clause-counts : goal.returns-then-give_many-clause-counts
returns-then-give_many-clause-counts g c = counts_then c.write_text.result _ _ _ _ _ _ c.if-give_many.ensures.counts c.write_text.ensures.counts
