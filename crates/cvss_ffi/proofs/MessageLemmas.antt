-- Where a message has the part of a text that it quotes.
use Rattle.std.proofs.Common.{◌≡◌, ℕ, List, [], ◌++◌, codes, length, take, drop, refl, sym, ap, ◌∙◌, append_assoc, append-nil}
use Rattle.std.proofs.Math.Seq.{drop-append_seam, take-append_seam}
use Rattle.cvss_base.specs.Rejection.{Rejection, BadComponent, WrongPrefix, WrongVersion, UnknownName, BadValue, Repeated, Missing}
use Rattle.cvss_vector.specs.MetricTypes.{words_of}
use Rattle.cvss_vector.specs.Reasons.{reason_text}
use Rattle.cvss_vector.specs.declared.metric_type.MetricType.{MetricType}
use Rattle.cvss_ffi.specs.Errors.{before_quoted, quoted_part}

-- what stands in a message after the part that it quotes; the whole message, where it quotes none
abbrev after_quoted : Rejection MetricType → List ℕ
after_quoted (WrongVersion _) = []
after_quoted (Repeated metric) = codes "duplicate " ++ words_of metric
after_quoted (Missing metric) = codes "missing mandatory " ++ words_of metric
after_quoted _ = codes "`"

parts_of : (reason : Rejection MetricType) → reason_text reason ≡ before_quoted reason ++ (quoted_part reason ++ after_quoted reason)
parts_of (BadComponent component) = refl
parts_of (WrongPrefix prefix) = refl
parts_of (WrongVersion version) = ap (λ end. codes "unsupported CVSS version: " ++ end) (sym (append-nil version))
parts_of (UnknownName name) = refl
parts_of (BadValue metric value) =
    let words = words_of metric in
    let rest = value ++ codes "`" in
    ap (λ end. codes "invalid " ++ end) (append_assoc words (codes ": ") (codes "`" ++ rest) ∙ sym (append_assoc words (codes ": `") rest))
parts_of (Repeated metric) = refl
parts_of (Missing metric) = refl

pub quoted_in : (reason : Rejection MetricType) → take (length (quoted_part reason)) (drop (length (before_quoted reason)) (reason_text reason)) ≡ quoted_part reason
quoted_in reason =
    rw (parts_of reason, drop-append_seam (before_quoted reason) (quoted_part reason ++ after_quoted reason))
    (take-append_seam (quoted_part reason) (after_quoted reason))
