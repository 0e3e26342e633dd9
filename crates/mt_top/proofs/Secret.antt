-- Two recordings that say the same but for keys come to the same output.
use Rattle.std.proofs.Common.{List, refl, sym, ap, ◌∙◌}
use Rattle.std.specs.Prelude.{map, None}
use Rattle.mt_files.specs.Output.{sent_line}
use Rattle.mt_model.specs.declared.texts.recording.Sent.{Sent}
use Rattle.mt_model.specs.texts.Contents.{Contents, contents_of}
use Rattle.mt_secrecy.specs.Laws.{KeysAreNeverSent}
use Rattle.mt_endings.specs.Endings.{configured, recorded, with_recording}
use Rattle.mt_top.specs.Asked.{played, replayed}
use Rattle.mt_top.specs.Begun.{begun_with}
use Rattle.mt_top.specs.Clusters.{OutputsHaveNoKeys}

pub no_keys_written : KeysAreNeverSent → OutputsHaveNoKeys
no_keys_written keys config bytes recordings others events other_events is reads other_reads alike =
    let begun = begun_with (contents_of config) in
    let whole = begun.going.whole in
    ap (λ r. configured (λ (contents : Contents). replayed contents recordings) r) is
    ∙ ap (λ r. recorded (played begun) r) reads
    ∙ ap (λ (sent : List Sent). with_recording (record { lines = map sent_line sent; fault = None })) (keys begun.given begun.sessions whole whole events other_events refl alike)
    ∙ sym (ap (λ r. recorded (played begun) r) other_reads)
    ∙ sym (ap (λ r. configured (λ (contents : Contents). replayed contents others) r) is)
