-- How a piece of the input is answered line by line.
use Rattle.std.proofs.Common.{◌≡◌, ℕ, ◌<◌, List, [], ◌∷◌, ◌++◌, length, Option, sym, ap, ◌∙◌, append_assoc, append-nil, subst}
use Rattle.std.specs.Global.{Vec}
use Rattle.cvss_lines.specs.Answers.{Rule}
use Rattle.cvss_lines.specs.Lines.{ended_lines, lines, last_line, line_text}
use Rattle.cvss_lines.specs.Streaming.{AreBegun, Beginning}
use Rattle.cvss_lines.specs.private.Steps.{Answers, Awaits, EndsInput, NoLineEnd, Reads, Stands, Stops, StopsAnswering, StopsEnding, StopsReading}
use Rattle.cvss_lines.specs.declared.fault.RunFault.{RunFault}
use Rattle.cvss_lines.specs.declared.fault.RunFault.TheVariants.{Memory}
use Rattle.cvss_lines.specs.declared.pending.Pending.{Pending}
use Rattle.cvss_lines.proofs.LinesLemmas.{Cut-more, Cut-rest, last_line-some}
use Rattle.cvss_lines.proofs.StepsLemmas.{AreBegun-more, AreFirst-more, Stops-memory, Stops-more}

module _ (rule : Rule) (beginning : Beginning) where
  -- the pieces of a chunk before the rest of it are read
  pub record HasRead (chunk rest : List ℕ) (w w' : Option (List ℕ)) (first now : Pending) : Type 0 where
    pub done : List ℕ
    pub whole : chunk ≡ done ++ rest
    pub reads : Reads rule beginning done w w' first now

  -- a line more is answered
  Awaits-line : (start w w' : Option (List ℕ)) (now next : Pending) (read piece : List ℕ) → Awaits rule beginning start w read now
      → NoLineEnd piece → Answers rule beginning (line_text (now.cut.items ++ piece) ∷ []) w w' now.progress next.progress
      → next.cut.items ≡ [] → Awaits rule beginning start w' (read ++ (piece ++ 10 ∷ [])) next
  Awaits-line start w w' now next read piece a none line cleared =
      let cut = Cut-more read piece [] none in
      record {
        stands = subst (λ ls. Stands rule beginning start w' ls next.progress)
            (ap (λ kept. ended_lines read ++ line_text (kept ++ piece) ∷ []) a.kept ∙ sym cut.0)
            (line start (ended_lines read) a.stands);
        kept = cleared ∙ sym cut.1;
      }

  module _ (chunk rest : List ℕ) (w w' : Option (List ℕ)) (first now : Pending) (p : HasRead chunk rest w w' first now) where
    pub HasRead_line : (piece after : List ℕ) (w'' : Option (List ℕ)) (next : Pending) → NoLineEnd piece → rest ≡ piece ++ 10 ∷ after
        → Answers rule beginning (line_text (now.cut.items ++ piece) ∷ []) w' w'' now.progress next.progress
        → next.cut.items ≡ [] → HasRead chunk after w w'' first next
    HasRead_line piece after w'' next none is line cleared = record {
      done = p.done ++ (piece ++ 10 ∷ []);
      whole = p.whole ∙ ap (λ r. p.done ++ r) (is ∙ sym (append_assoc piece (10 ∷ []) after))
          ∙ sym (append_assoc p.done (piece ++ 10 ∷ []) after);
      reads = λ start read a. subst (λ r. Awaits rule beginning start w'' r next) (append_assoc read p.done (piece ++ 10 ∷ []))
          (Awaits-line start w' w'' now next (read ++ p.done) piece (p.reads start read a) none line cleared);
    }

    -- what was read and the rest are what was read and the chunk
    whole_after : (read : List ℕ) → (read ++ p.done) ++ rest ≡ read ++ chunk
    whole_after read = append_assoc read p.done rest ∙ ap (λ r. read ++ r) (sym p.whole)

    -- a fault in one more line
    pub HasRead_stopped : (piece after : List ℕ) (w'' : Option (List ℕ)) (fault : RunFault) → NoLineEnd piece → rest ≡ piece ++ 10 ∷ after
        → StopsAnswering rule beginning (line_text (now.cut.items ++ piece) ∷ []) w' w'' now.progress fault
        → StopsReading rule beginning chunk w w'' first fault
    HasRead_stopped piece after w'' fault none is stops = λ start read a.
        let here = p.reads start read a in
        let line = line_text (now.cut.items ++ piece) in
        let before = ended_lines (read ++ p.done) in
        let all : before ++ line ∷ ended_lines after ≡ ended_lines (read ++ chunk) =
        ap (λ kept. before ++ line_text (kept ++ piece) ∷ ended_lines after) here.kept ∙ sym (Cut-more (read ++ p.done) piece after none).0
        ∙ ap (λ r. ended_lines ((read ++ p.done) ++ r)) (sym is) ∙ ap ended_lines (whole_after read) in
        subst (λ ls. Stops rule beginning start w'' ls ls fault) all
        (Stops-more rule beginning start w'' before (before ++ line ∷ []) _ _ fault
        (AreFirst-more rule beginning before (line ∷ ended_lines after))
        (λ bytes begun. subst (λ ls. AreBegun rule beginning 1 ls bytes) (append_assoc before (line ∷ []) (ended_lines after))
        (AreBegun-more rule beginning (before ++ line ∷ []) (ended_lines after) bytes begun))
        (stops start before here.stands))

    -- memory is refused for the rest
    pub HasRead_memory : NoLineEnd rest → StopsReading rule beginning chunk w w' first Memory
    HasRead_memory none = λ start read a.
        subst (λ ls. Stops rule beginning start w' ls ls Memory)
        (sym (Cut-rest (read ++ p.done) rest none).0 ∙ ap ended_lines (whole_after read))
        (Stops-memory rule beginning start w' _ now.progress (p.reads start read a).stands)

    -- the rest is kept
    pub HasRead_all : (cut : Vec ℕ) → NoLineEnd rest → cut.items ≡ now.cut.items ++ rest → Reads rule beginning chunk w w' first (record now { cut = cut })
    HasRead_all cut none kept = λ start read a.
        let here = p.reads start read a in
        let ended = Cut-rest (read ++ p.done) rest none in
        subst (λ r. Awaits rule beginning start w' r (record now { cut = cut })) (whole_after read)
        (record {
          stands = subst (λ ls. Stands rule beginning start w' ls now.progress) (sym ended.0) here.stands;
          kept = kept ∙ ap (λ k. k ++ rest) here.kept ∙ sym ended.1;
        })

  -- the line that the end of the input ends is that of what is kept
  module _ (w w' : Option (List ℕ)) (now : Pending) where
    last_kept : (start : Option (List ℕ)) (read : List ℕ) → Awaits rule beginning start w read now → 0 < length now.cut.items
        → ended_lines read ++ line_text (now.cut.items ++ []) ∷ [] ≡ lines read
    last_kept start read a some =
        ap (λ kept. ended_lines read ++ line_text kept ∷ []) (append-nil now.cut.items)
        ∙ ap (λ ls. ended_lines read ++ ls) (sym (last_line-some now.cut.items some)) ∙ ap (λ kept. ended_lines read ++ last_line kept) a.kept

    pub EndsInput_line : (next : Pending) → 0 < length now.cut.items
        → Answers rule beginning (line_text (now.cut.items ++ []) ∷ []) w w' now.progress next.progress
        → EndsInput rule beginning w w' now next
    EndsInput_line next some line = λ start read a.
        subst (λ ls. Stands rule beginning start w' ls next.progress) (last_kept start read a some) (line start (ended_lines read) a.stands)

    pub StopsEnding_line : (fault : RunFault) → 0 < length now.cut.items
        → StopsAnswering rule beginning (line_text (now.cut.items ++ []) ∷ []) w w' now.progress fault
        → StopsEnding rule beginning w w' now fault
    StopsEnding_line fault some stops = λ start read a.
        subst (λ ls. Stops rule beginning start w' (ended_lines read) ls fault) (last_kept start read a some) (stops start (ended_lines read) a.stands)

    -- or there is none
    pub EndsInput_none : now.cut.items ≡ [] → EndsInput rule beginning w w now now
    EndsInput_none none = λ start read a. subst (λ ls. Stands rule beginning start w ls now.progress)
        (sym (append-nil (ended_lines read)) ∙ ap (λ kept. ended_lines read ++ last_line kept) (sym none ∙ a.kept)) a.stands
