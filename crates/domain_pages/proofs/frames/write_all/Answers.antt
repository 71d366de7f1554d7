use Rattle.std.proofs.Common.{◌≡◌, ◌∙◌, ◌+◌, ◌-◌, ℕ, List, ap, arith, drop, refl, rules, sym, take, length, replicate}
use Rattle.std.proofs.lemmas.List.{length-replicate}
use Rattle.std.proofs.lemmas.Slice.{put_mid-paste}
use Rattle.std.proofs.Math.Seq.{paste}
use Rattle.domain_pages.proofs.Shown.{length_left, written_all}
use Rattle.domain_pages.proofs.frames.write_all.Goals as goal

pub returns : goal.returns
returns c =
    let memory = c.args.frames.now in
    let start = c.args.start in
    let words = c.args.words.now in
    let count = c.args.count in
    let n = length words in
    let m = count - n in
    let zeros : List ℕ = replicate m 0 in
    let copied =
    put_mid-paste start (start + n - start) memory c.copy_from_slice.new.self words n c.copy_from_slice.ensures.after (omega arith) refl in
    let left =
    ap (λ d. length (take (start + count - (start + n)) (drop (start + n) d))) copied
    ∙ length_left memory words start count c.requires.within c.requires.fits in
    let filled : c.fill.new.self ≡ zeros = c.fill.ensures.after (search rules) ∙ ap (λ k. replicate k 0) left in
    put_mid-paste (start + n) (start + count - (start + n)) _ c.fill.new.self zeros m filled (omega arith) (sym (length-replicate m 0))
    ∙ ap (λ d. paste d (start + n) zeros m) copied
    ∙ written_all memory words start count c.requires.within c.requires.fits
