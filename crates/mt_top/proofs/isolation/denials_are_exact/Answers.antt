use Rattle.mt_top.proofs.isolation.denials_are_exact.Goals as goal

pub returns : goal.returns
returns c = record {
  reads = c.read_denials_are_exact.ensures.concrete;
  wildcards = c.read_denials_are_exact.ensures.wildcard;
  event_paths = c.event_denials_are_exact.ensures.concrete;
  untold = c.event_denials_are_exact.ensures.told;
  writes = c.write_denials_are_exact.ensures;
  commands = c.command_denials_are_exact.ensures;
}
