use Rattle.mt_top.proofs.Secret.{no_keys_written}
use Rattle.mt_top.proofs.isolation.keys_are_secret.Goals as goal

pub returns : goal.returns
returns c = record {
  sent = c.keys_are_never_sent.ensures.sent;
  messages = c.keys_are_never_sent.ensures.messages;
  written = no_keys_written c.keys_are_never_sent.ensures.sent;
}
