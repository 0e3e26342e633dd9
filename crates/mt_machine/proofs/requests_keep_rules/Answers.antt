use Rattle.mt_machine.proofs.requests_keep_rules.Goals as goal

pub returns : goal.returns
returns c = record {
  own = c.writes_touch_their_own.ensures;
  forms = c.writes_keep_forms.ensures;
  nobody = c.nobody_writes_scoped.ensures;
  commissioning = c.steps_are_sound.ensures;
  first = c.steps_stand_first.ensures;
  well_formed = c.steps_are_well_formed.ensures;
  fit = c.steps_fit.ensures;
  moves = c.steps_are_moves.ensures;
  windows = c.commands_are_sound.ensures;
  keys = c.steps_are_sound-2.ensures.sound;
  keyless = c.steps_are_sound-2.ensures.nobody;
}
