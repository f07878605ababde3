-- A session over a file, where one is named, and the input.
use Rattle.std.proofs.Common.{◌≡◌, ℕ, ◌<◌, ◌≤◌, Bool, true, false, inl, inr, List, [], ◌∷◌, map, length, get_or, slice_set, refl, sym, subst, arith}
use Rattle.io_streams.specs.Source.{SourceState}
use Rattle.io_streams.specs.Sink.{SinkState}
use Rattle.io_streams.specs.declared.status.Status.TheVariants as status
use Rattle.cmd_session.specs.State.{State, empty}
use Rattle.cmd_session.specs.Session.{SessionValue, StandsFor}
use Rattle.cmd_session.specs.Run.{HasState, TookAll}
use Rattle.cmd_session.specs.declared.run.Ending.{Ending}
use Rattle.cmd_session.specs.declared.run.Ending.TheVariants.{Done, ReadFault, WriteFault, Memory, ByteLimit}
use Rattle.cmd_dispatch.specs.Commands.{HasFile}
use Rattle.cmd_dispatch.specs.Files.{FirstRead, NoneFell}
use Rattle.cmd_dispatch.specs.Phases.{RanAs, AnsweredAs, FilePhase, FileRan, SessionRan}
use Rattle.cmd_dispatch.specs.Run.{InputSessionEnds, FileSessionEnds, SessionEndsOn, failed_in, status_of}
use Rattle.cmd_dispatch.proofs.BehindFile.{ran-ends, ran-input_later, ran-output_later, behind-stands, behind-file}

-- the first of some files was read
pub first-read : {X : Type 0} (seen : X → SourceState) (xs : List X) (d new : X) (P : SourceState → SourceState → Type 0) → 0 < length (map seen xs) → P (seen (get_or xs 0 d)) (seen new)
    → FirstRead (map seen xs) (map seen (slice_set xs 0 new)) P
first-read seen [] d new P some h = absurd (omega (arith, some))
first-read seen (x ∷ xs) d new P some h = record { file = seen x; file' = seen new; others = map seen xs; were = refl; are = refl; holds = h }

-- the lines of the first file were answered, or the run ended there
pub file-phase : {X : Type 0} (seen : X → SourceState) (xs : List X) (d now : X) (each : Bool) (how : Ending) (s : State) (before middle : SinkState) (old new : SessionValue) → 0 < length (map seen xs)
    → RanAs each how s (seen (get_or xs 0 d)) (seen now) before middle → (how ≡ Done → TookAll (seen (get_or xs 0 d)) (seen now) (λ text. AnsweredAs each s text before middle new))
    → FilePhase how true each s (map seen xs) (map seen (slice_set xs 0 now)) before middle old new
file-phase seen xs d now each Done s before middle old new some ran done = first-read seen xs d now _ some (record {
  took = done refl;
  input_later = ran-input_later each Done s (seen (get_or xs 0 d)) (seen now) before middle ran;
  output_later = ran-output_later each Done s (seen (get_or xs 0 d)) (seen now) before middle ran;
})
file-phase seen xs d now each ReadFault s before middle old new some ran done = first-read seen xs d now _ some ran
file-phase seen xs d now each WriteFault s before middle old new some ran done = first-read seen xs d now _ some ran
file-phase seen xs d now each Memory s before middle old new some ran done = first-read seen xs d now _ some ran
file-phase seen xs d now each ByteLimit s before middle old new some ran done = first-read seen xs d now _ some ran

-- the session stands for some state before the input is read
pub phase-stands : (named each : Bool) (s : State) (files files' : List SourceState) (before middle : SinkState) (old new : SessionValue) → StandsFor old s → FilePhase Done named each s files files' before middle old new → HasState new
phase-stands false each s files files' before middle old new stands h = record { state = s; stands = subst (λ k. StandsFor k s) (sym h.2) stands }
phase-stands true each s files files' before middle old new stands h =
    let b = behind-stands each s h.file h.file' before middle new h.holds in
    record { state = b.0; stands = b.1 }

-- the run went on over the input
pub session-ran : (named each : Bool) (how : Ending) (s : State) (input input' : SourceState) (files files' : List SourceState) (before middle now : SinkState) (old new : SessionValue) → StandsFor old s
    → FilePhase Done named each s files files' before middle old new → ((u : State) → StandsFor new u → RanAs each how u input input' middle now) → SessionRan named false each how s input input' files files' before now
session-ran false each how s input input' files files' before middle now old new stands h runs =
    (refl, h.0, subst (λ m. RanAs each how s input input' m now) h.1 (runs s (subst (λ k. StandsFor k s) (sym h.2) stands)))
session-ran true each how s input input' files files' before middle now old new stands h runs = record {
  file = h.file;
  file' = h.file';
  others = h.others;
  were = h.were;
  are = h.are;
  holds = behind-file each how s h.file h.file' input input' before middle now new h.holds runs;
}

-- the run ended in the file
in-there : (each : Bool) (how : Ending) (s : State) (file file' input : SourceState) (before now : SinkState) → (how ≡ Done → ⊥) → RanAs each how s file file' before now → FileRan true each how s file file' input input before now
in-there each Done s file file' input before now open-yet ran = absurd (open-yet refl)
in-there each ReadFault s file file' input before now open-yet ran = record { ends = (ran-ends each ReadFault s file file' before now ran, refl); file_later = ran-input_later each ReadFault s file file' before now ran; input_later = omega arith; output_later = ran-output_later each ReadFault s file file' before now ran }
in-there each WriteFault s file file' input before now open-yet ran = record { ends = (ran-ends each WriteFault s file file' before now ran, refl); file_later = ran-input_later each WriteFault s file file' before now ran; input_later = omega arith; output_later = ran-output_later each WriteFault s file file' before now ran }
in-there each Memory s file file' input before now open-yet ran = record { ends = (ran-ends each Memory s file file' before now ran, refl); file_later = ran-input_later each Memory s file file' before now ran; input_later = omega arith; output_later = ran-output_later each Memory s file file' before now ran }
in-there each ByteLimit s file file' input before now open-yet ran = record { ends = (ran-ends each ByteLimit s file file' before now ran, refl); file_later = ran-input_later each ByteLimit s file file' before now ran; input_later = omega arith; output_later = ran-output_later each ByteLimit s file file' before now ran }

pub in-file : (named each : Bool) (how : Ending) (s : State) (input : SourceState) (files files' : List SourceState) (before now : SinkState) (old new : SessionValue) → (how ≡ Done → ⊥)
    → FilePhase how named each s files files' before now old new → SessionRan named true each how s input input files files' before now
in-file named each Done s input files files' before now old new open-yet h = absurd (open-yet refl)
in-file false each ReadFault s input files files' before now old new open-yet h = absurd h
in-file false each WriteFault s input files files' before now old new open-yet h = absurd h
in-file false each Memory s input files files' before now old new open-yet h = absurd h
in-file false each ByteLimit s input files files' before now old new open-yet h = absurd h
in-file true each ReadFault s input files files' before now old new open-yet h = record { file = h.file; file' = h.file'; others = h.others; were = h.were; are = h.are; holds = in-there each ReadFault s h.file h.file' input before now open-yet h.holds }
in-file true each WriteFault s input files files' before now old new open-yet h = record { file = h.file; file' = h.file'; others = h.others; were = h.were; are = h.are; holds = in-there each WriteFault s h.file h.file' input before now open-yet h.holds }
in-file true each Memory s input files files' before now old new open-yet h = record { file = h.file; file' = h.file'; others = h.others; were = h.were; are = h.are; holds = in-there each Memory s h.file h.file' input before now open-yet h.holds }
in-file true each ByteLimit s input files files' before now old new open-yet h = record { file = h.file; file' = h.file'; others = h.others; were = h.were; are = h.are; holds = in-there each ByteLimit s h.file h.file' input before now open-yet h.holds }

-- nothing was done
pub nothing-done : (named each : Bool) (limit : ℕ) (input : SourceState) (files : List SourceState) (sink : SinkState) → HasFile named files → SessionEndsOn named status.Memory false each limit input input files files sink sink
nothing-done false false limit input files sink has = (refl, refl, inl (refl, refl))
nothing-done false true limit input files sink has = (refl, refl, inl (refl, refl))
nothing-done true each limit input [] sink has = absurd (omega (arith, has))
nothing-done true each limit input (file ∷ files) sink has = record { file = file; file' = file; others = files; were = refl; are = refl; holds = (refl, inl (refl, refl, refl)) }

pub same-fell : (files : List SourceState) → NoneFell files files
same-fell [] = tt
same-fell (file ∷ files) = (omega arith, same-fell files)

input-ends : (each : Bool) (how : Ending) (limit : ℕ) (input input' : SourceState) (sink sink' : SinkState) → RanAs each how (empty limit) input input' sink sink' → InputSessionEnds each (status_of how) limit input input' sink sink'
input-ends false Done limit input input' sink sink' h = h.ends
input-ends false ReadFault limit input input' sink sink' h = h.ends
input-ends false WriteFault limit input input' sink sink' h = h.ends
input-ends false Memory limit input input' sink sink' h = inr h.ends
input-ends false ByteLimit limit input input' sink sink' h = h.ends
input-ends true Done limit input input' sink sink' h = h.ends
input-ends true ReadFault limit input input' sink sink' h = h.ends
input-ends true WriteFault limit input input' sink sink' h = h.ends
input-ends true Memory limit input input' sink sink' h = inr h.ends
input-ends true ByteLimit limit input input' sink sink' h = h.ends

not-failed : (how : Ending) (in_file : Bool) → in_file ≡ false → failed_in how in_file ≡ false
not-failed Done in_file e = refl
not-failed ReadFault in_file e = e
not-failed WriteFault in_file e = refl
not-failed Memory in_file e = refl
not-failed ByteLimit in_file e = refl

file-ends : (in_file each : Bool) (how : Ending) (limit : ℕ) (file file' input input' : SourceState) (sink sink' : SinkState) → FileRan in_file each how (empty limit) file file' input input' sink sink'
    → FileSessionEnds (status_of how) (failed_in how in_file) each limit file file' input input' sink sink'
file-ends false each Done limit file file' input input' sink sink' h = (refl, h.ends)
file-ends false each ReadFault limit file file' input input' sink sink' h = h.ends
file-ends false each WriteFault limit file file' input input' sink sink' h = (refl, inr h.ends)
file-ends false each Memory limit file file' input input' sink sink' h = (refl, inr (inr h.ends))
file-ends false each ByteLimit limit file file' input input' sink sink' h = (refl, inr h.ends)
file-ends true each Done limit file file' input input' sink sink' h = absurd h.ends
file-ends true each ReadFault limit file file' input input' sink sink' h = h.ends
file-ends true each WriteFault limit file file' input input' sink sink' h = (refl, inl h.ends)
file-ends true each Memory limit file file' input input' sink sink' h = (refl, inr (inl h.ends))
file-ends true each ByteLimit limit file file' input input' sink sink' h = (refl, inl h.ends)

-- how a session ends, by the status
pub session-ends : (named in_file each : Bool) (how : Ending) (limit : ℕ) (input input' : SourceState) (files files' : List SourceState) (sink sink' : SinkState) → SessionRan named in_file each how (empty limit) input input' files files' sink sink'
    → SessionEndsOn named (status_of how) (failed_in how in_file) each limit input input' files files' sink sink'
session-ends false in_file each how limit input input' files files' sink sink' h = (not-failed how in_file h.0, h.1, input-ends each how limit input input' sink sink' h.2)
session-ends true in_file each how limit input input' files files' sink sink' h = record {
  file = h.file;
  file' = h.file';
  others = h.others;
  were = h.were;
  are = h.are;
  holds = file-ends in_file each how limit h.file h.file' input input' sink sink' h.holds;
}

pub ran-input : (named in_file each : Bool) (how : Ending) (s : State) (input input' : SourceState) (files files' : List SourceState) (sink sink' : SinkState) → SessionRan named in_file each how s input input' files files' sink sink' → input.faults ≤ input'.faults
ran-input false in_file each how s input input' files files' sink sink' h = ran-input_later each how s input input' sink sink' h.2
ran-input true in_file each how s input input' files files' sink sink' h = h.holds.input_later

pub ran-output : (named in_file each : Bool) (how : Ending) (s : State) (input input' : SourceState) (files files' : List SourceState) (sink sink' : SinkState) → SessionRan named in_file each how s input input' files files' sink sink' → sink.faults ≤ sink'.faults
ran-output false in_file each how s input input' files files' sink sink' h = ran-output_later each how s input input' sink sink' h.2
ran-output true in_file each how s input input' files files' sink sink' h = h.holds.output_later

pub ran-files : (named in_file each : Bool) (how : Ending) (s : State) (input input' : SourceState) (files files' : List SourceState) (sink sink' : SinkState) → SessionRan named in_file each how s input input' files files' sink sink' → NoneFell files files'
ran-files false in_file each how s input input' files files' sink sink' h = subst (NoneFell files) (sym h.1) (same-fell files)
ran-files true in_file each how s input input' files files' sink sink' h =
    subst (λ fs. NoneFell fs files') (sym h.were) (subst (NoneFell (h.file ∷ h.others)) (sym h.are) (h.holds.file_later, same-fell h.others))
