use Rattle.trace_text.proofs.Messages.{uncommon}
use Rattle.trace_text.proofs.message_text.put_said.Goals as goal

pub put_rare-requires : goal.put_rare-requires
put_rare-requires c =
    let not = c.in_default in
    record {
      rare = uncommon c.args.said.now not.not-Submit not.not-Cancel not.not-Outside not.not-Clock not.not-Start not.not-Idle not.not-Done not.not-Again not.not-Error;
      room = c.requires;
    }
