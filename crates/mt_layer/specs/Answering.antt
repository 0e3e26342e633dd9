-- What is answered to what was said, told by the reply of the shared node and the time of its deed alone.
use Rattle.std.specs.Prelude.{ℕ, List, [], Option, Some, None, Result, Ok, Err}
use Rattle.mt_im.specs.Reading.{request_in}
use Rattle.mt_im.specs.declared.fault.ImFault.{ImFault}
use Rattle.mt_im_out.specs.Chunks.{chunks_of}
use Rattle.mt_model.specs.declared.messages.message.Payload.{Payload}
use Rattle.mt_model.specs.declared.messages.message.Reply.{Reply}
use Rattle.mt_model.specs.declared.messages.message.Request.{Request}
use Rattle.mt_model.specs.declared.messages.message.Request.TheVariants as requests
use Rattle.mt_talk.specs.Hearing.{Said, answers, asks, confirms, ends, nothing}
use Rattle.mt_shared.specs.mt_machine.Lines.{fault_reply}
use Rattle.mt_shared.specs.mt_runs.Datagrams.{Answer, dated, deadline_set}
use Rattle.mt_layer.specs.declared.answering.Answering.{Answering}
use Rattle.mt_layer.specs.declared.answering.Content.{Content}
use Rattle.mt_layer.specs.declared.answering.Content.TheVariants as contents

-- A request is answered with the reply, and until when the next one must come; what is no request, with its fault.
abbrev pub payloads_asked : ℕ → Option ℕ → Reply → Result Request ImFault → List Payload
payloads_asked ms timed reply (Ok request) = dated (deadline_set timed ms (Ok request)) (chunks_of reply)
payloads_asked ms timed reply (Err fault) = chunks_of (fault_reply fault)

-- WHAT IS ANSWERED
abbrev pub answered_with : ℕ → Reply → Said → Option Answer
answered_with ms reply nothing = None
answered_with ms reply (asks key acknowledge opcode payload timed) = Some (record { key = key; acknowledge = acknowledge; payloads = payloads_asked ms timed reply (request_in opcode payload) })
answered_with ms reply (confirms key acknowledge subscription) = Some (record { key = key; acknowledge = acknowledge; payloads = chunks_of reply })
answered_with ms reply (ends key acknowledge subscription) = Some (record { key = key; acknowledge = acknowledge; payloads = [] })
answered_with ms reply (answers key acknowledge payloads) = Some (record { key = key; acknowledge = acknowledge; payloads = payloads })

-- As the code keeps it of what was heard.

-- how long a request lets the next one take, in ms, where it sets that
abbrev pub wait_of : Request → Option ℕ
wait_of (requests.Timed wait) = Some wait
wait_of request = None

-- until when the next request must come, where so many ms were set
abbrev pub until_set : Option ℕ → ℕ → Option ℕ → Option ℕ
until_set timed ms None = None
until_set timed ms (Some wait) = deadline_set timed ms (Ok (requests.Timed wait))

abbrev pub payloads_by : ℕ → Reply → Content → List Payload
payloads_by ms reply (contents.Reply timed wait) = dated (until_set timed ms wait) (chunks_of reply)
payloads_by ms reply (contents.Payloads payloads) = payloads

abbrev pub answer_by : ℕ → Reply → Option Answering → Option Answer
answer_by ms reply None = None
answer_by ms reply (Some answering) = Some (record { key = answering.key; acknowledge = answering.acknowledge; payloads = payloads_by ms reply answering.content })
