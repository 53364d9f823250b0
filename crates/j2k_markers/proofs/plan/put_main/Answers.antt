use Rattle.std.proofs.Common.{◌≡◌, ◌++◌, List, ℕ, [], ◌∷◌, append_assoc}
use Rattle.std.proofs.lemmas.List.{append-nil}
use Rattle.codestream_model.specs.Segments.{SIZ, CAP, COD, QCD, segment_bytes}
use Rattle.j2k_markers.specs.Layout.{siz_content, cod_content, qcd_content}
use Rattle.j2k_markers.proofs.plan.put_main.Goals as goal

-- four parts, one after another
four_parts : (a b c d e s t u v : List ℕ) → b ≡ a ++ s → c ≡ b ++ t → d ≡ c ++ u → e ≡ d ++ v → e ≡ a ++ (s ++ (t ++ (u ++ (v ++ []))))
four_parts a b c d e s t u v f g h i = rw (i, h, g, f) (simp (append_assoc, append-nil))

pub returns : goal.returns
returns c =
    let plan = c.args.plan.now in
    four_parts c.args.bytes.now.items c.put_siz.new.bytes.items c.put_segment.new.bytes.items c.put_cod.new.bytes.items c.put_qcd.new.bytes.items
    (segment_bytes (record { marker = SIZ; content = siz_content plan }))
    (segment_bytes (record { marker = CAP; content = 0 ∷ 2 ∷ 0 ∷ 0 ∷ 0 ∷ 0 ∷ [] }))
    (segment_bytes (record { marker = COD; content = cod_content plan }))
    (segment_bytes (record { marker = QCD; content = qcd_content plan.levels }))
    c.in_ok-put_siz.ensures c.in_ok-put_segment.ensures c.in_ok-put_cod.ensures c.in_ok-put_qcd.ensures
