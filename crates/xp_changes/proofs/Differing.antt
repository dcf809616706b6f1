-- Where a stop is needed, and where not.
use Rattle.std.proofs.Common.{◌≡◌, ◌∙◌, ◌↔◌, true, false, refl, sym}
use Rattle.xp_changes.specs.Following.{MayFollow}
use Rattle.xp_changes.proofs.Laying.{refuted, settings_of}
use Rattle.xp_reload.specs.Frame.{Differs, HasSameSettings, IsSameFrame}
use Rattle.xp_reload.specs.declared.frame.FrameChange.{FrameChange}
use Rattle.xp_reload.specs.declared.frame.FrameChange.TheVariants as changes
use Rattle.xp_subs.specs.Laid.{CannotBeLaid, IsLaidOver}
use Rattle.xp_subs.specs.Sound.{IsSound}
use Rattle.xp_subs.specs.Tables.{Tables}
use Rattle.xp_subs.specs.declared.laid.LayFault.{LayFault}

-- lines that have no places
pub by_fault : (old new : Tables) (fault : LayFault) → IsSound new → CannotBeLaid old new fault → (true ≡ false) ↔ MayFollow old new
by_fault old new fault sound cannot = (λ e. absurd (cc), λ may. absurd (refuted old new may.laid fault sound cannot may.over))

not_same : (old new laid : Tables) (change : FrameChange) → IsLaidOver old new laid → Differs old laid change → HasSameSettings old new → ⊥
not_same old new laid changes.LineCount over differs same = differs over.count
not_same old new laid (changes.Modulus line) over differs same = differs.1 (over.moduli line differs.0)
not_same old new laid changes.SegmentLimit over differs same = differs (sym (settings_of old new laid over).segment_limit ∙ same.segment_limit)
not_same old new laid changes.Journal over differs same = differs (sym (settings_of old new laid over).journal ∙ same.journal)
not_same old new laid changes.Host over differs same = differs (sym (settings_of old new laid over).host ∙ same.host)
not_same old new laid changes.XotPort over differs same = differs (sym (settings_of old new laid over).xot_port ∙ same.xot_port)
not_same old new laid changes.Name over differs same = differs (sym (settings_of old new laid over).name ∙ same.name)

-- another frame
pub by_frame : (old new laid : Tables) (change : FrameChange) → IsLaidOver old new laid → Differs old laid change → (true ≡ false) ↔ MayFollow old new
by_frame old new laid change over differs = (λ e. absurd (cc), λ may. absurd (not_same old new laid change over differs may.settings))

-- nothing
pub by_none : (old new laid : Tables) → IsLaidOver old new laid → IsSameFrame old laid → (false ≡ false) ↔ MayFollow old new
by_none old new laid over frame =
    let are = settings_of old new laid over in
    let settings : HasSameSettings old new = record {
      segment_limit = are.segment_limit ∙ frame.settings.segment_limit;
      journal = are.journal ∙ frame.settings.journal;
      host = are.host ∙ frame.settings.host;
      xot_port = are.xot_port ∙ frame.settings.xot_port;
      name = are.name ∙ frame.settings.name;
    } in
    (λ e. record { laid = laid; over = over; settings = settings }, λ may. refl)
