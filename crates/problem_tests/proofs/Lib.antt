mod LegalMoves
