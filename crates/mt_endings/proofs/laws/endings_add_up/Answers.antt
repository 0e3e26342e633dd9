use Rattle.mt_endings.proofs.Rows.{both_played, both_stopped, ends_badly, ends_behind, ends_unread, first_unrecorded, made_whole, played_to_end, second_unrecorded, stopped_in_play, text_stopped, text_told, text_unread, unconfigured, unmade, unrecorded}
use Rattle.mt_endings.proofs.laws.endings_add_up.Goals as goal

pub returns : goal.returns
returns c =
    let laws = c.writings_add_up.ensures in
    record {
      no_form = λ old after faults status h. ends_badly laws old after faults status h;
      no_memory = λ asked old after faults h. ends_unread laws asked old after faults h;
      unconfigured = λ comes_to fault status old now first second before after old_faults new_faults h calm end. unconfigured laws comes_to fault status old now first second before after old_faults new_faults h calm end;
      configured = λ comes_to contents bytes old now first_old first_new second_old second_new before after old_faults new_faults status is read calm h. ends_behind laws comes_to contents bytes is old now first_old first_new second_old second_new before after old_faults new_faults read calm status h;
      unrecorded = λ come_to fault status old now second before after old_faults new_faults h calm end. unrecorded laws come_to old now second before old_faults fault status after new_faults h calm end;
      played = λ come_to events old now second before after old_faults new_faults held same h calm. played_to_end laws come_to old now second before old_faults events after new_faults held same h calm;
      stopped = λ come_to events fault status old now second before between after old_faults faults new_faults held same h calm end. stopped_in_play laws come_to old now second before old_faults events fault status between after faults new_faults held same h calm end;
      first_unrecorded = λ come_to fault status old now second before after old_faults new_faults h calm end. first_unrecorded laws come_to before old_faults fault status old now second after new_faults h calm end;
      second_unrecorded = λ come_to events fault status first_old first_now old now before after old_faults new_faults held first_calm h calm end. second_unrecorded laws come_to before old_faults events first_old first_now old now held first_calm fault status after new_faults h calm end;
      both_played = λ come_to events others first_old first_now old now before after old_faults new_faults held first_calm read same h calm. both_played laws come_to before old_faults events first_old first_now old now held first_calm others after new_faults read same h calm;
      both_stopped = λ come_to events others fault status first_old first_now old now before between after old_faults faults new_faults held first_calm read same h calm end. both_stopped laws come_to before old_faults events first_old first_now old now held first_calm others fault status between after faults new_faults read same h calm end;
      text_unread = λ come_to fault status old now second before after old_faults new_faults long h calm end. text_unread laws come_to old now second before old_faults fault status after new_faults long h calm end;
      text_told = λ come_to bytes old now second before after old_faults new_faults read same h calm. text_told laws come_to old now second before old_faults bytes after new_faults read same h calm;
      text_stopped = λ come_to bytes fault status old now second before between after old_faults faults new_faults read same h calm end. text_stopped laws come_to old now second before old_faults bytes fault status between after faults new_faults read same h calm end;
      made = λ all first second before after old_faults new_faults h calm. made_whole laws all first second before old_faults after new_faults h calm;
      unmade = λ all fault status first second before between after old_faults faults new_faults h calm end. unmade laws all first second before old_faults fault status between after faults new_faults h calm end;
    }
