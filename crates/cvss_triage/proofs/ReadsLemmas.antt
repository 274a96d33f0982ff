-- What is read or reported in turn.
use Rattle.std.proofs.Common.{◌≡◌, ◌↔◌, ◌≤◌, ℕ, Bool, true, false, IsTrue, inl, inr, List, [], ◌++◌, map, drop, length, append-nil, refl, sym, ◌∙◌, subst, Option}
use Rattle.std.proofs.lemmas.Bool.{false≢true}
use Rattle.std.proofs.lemmas.List.{drop_all}
use Rattle.cvss_frame.specs.Reports.{Reported, Reports}
use Rattle.cvss_frame.specs.State.{State}
use Rattle.cvss_triage.specs.Inputs.{Reading, ReadsEach}
use Rattle.cvss_triage.specs.Overrides.{HoldsForSome}
use Rattle.cvss_triage.specs.Reports.{ReportsEach, ReportsUnknown}
use Rattle.cvss_triage.specs.Settings.{as_metrics}
use Rattle.cvss_triage.specs.declared.overrides.Family.{Family}
use Rattle.cvss_triage.specs.declared.overrides.Override.{Override}

-- no word is left
pub reads_all : {X W Y : Type 0} (f : X → W) (step : Reading W Y) (words : List X) (count : ℕ) (start end : State) (read : List Y) → length words ≤ count
    → ((last : State) → (more : List Y) → ReadsEach step (map f (drop count words)) end last more → ReadsEach step (map f words) start last (read ++ more))
    → ReadsEach step (map f words) start end read
reads_all {X} {W} {Y} f step words count start end read past so_far =
    subst (λ all. ReadsEach step (map f words) start end all) (append-nil read)
    (so_far end [] (subst (λ left. ReadsEach step (map f left) end end []) (sym (drop_all count words past)) (refl, refl)))

-- nothing is left to report
pub reports_all : {X : Type 0} (step : X → Reported → Reported → Type 0) (items : List X) (count : ℕ) (report report' : Reported) → length items ≤ count
    → ((final : Reported) → ReportsEach step (drop count items) report' final → ReportsEach step items report final)
    → ReportsEach step items report report'
reports_all step items count report report' past so_far =
    so_far report' (subst (λ left. ReportsEach step left report' report') (sym (drop_all count items past)) refl)

-- metrics that hold for some vector are not reported
pub unknown_kept : (it : Override) (test : Bool) (metrics : Option Family × List ℕ) (text : List ℕ) (report : Reported)
    → (IsTrue test ↔ HoldsForSome it) → test ≡ true → as_metrics it ≡ metrics → ReportsUnknown metrics text report report
unknown_kept it test metrics text report tells is same = record { it = it; is = same; reported = inl (tells.0 is, refl) }

-- others are
pub unknown_told : (it : Override) (test : Bool) (metrics : Option Family × List ℕ) (text told : List ℕ) (report report' : Reported)
    → (IsTrue test ↔ HoldsForSome it) → test ≡ false → as_metrics it ≡ metrics → told ≡ text → Reports report report' told
    → ReportsUnknown metrics text report report'
unknown_told it test metrics text told report report' tells is same equal reports = record {
  it = it;
  is = same;
  reported = inr (λ holds. false≢true (sym is ∙ tells.1 holds), subst (Reports report report') equal reports);
}
