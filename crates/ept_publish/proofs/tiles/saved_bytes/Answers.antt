use Rattle.ept_publish.proofs.tiles.saved_bytes.Goals as goal
